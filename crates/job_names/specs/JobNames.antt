-- Meaning: the keys of columns in the jobs of a file: what stands between double quotes, and the decimal places after
-- it.
use Rattle.std.specs.Prelude.{ℕ, ◌==◌, ◌++◌, List, [], ◌∷◌, take_while, Option, Some, None, Result, Ok, Err}
use Rattle.std.specs.Prelude.{if◌then◌else◌}
use Rattle.std.specs.Char.{is_ascii_digit}
use Rattle.std.specs.Option.{unwrap_or}
use Rattle.stream_tokens.specs.Bytes.{is_blank}
use Rattle.stream_tokens.specs.declared.job_text.JobText.{JobText}
use Rattle.stream_tokens.specs.declared.job_text.TextFault.{TextFault}
use Rattle.job_names.specs.ColumnKeys.{key_of, places_of}

-- helper: a text without the blanks that it begins with
abbrev pub after_blanks : List ℕ → List ℕ
after_blanks [] = []
after_blanks (b ∷ bs) = if is_blank b then after_blanks bs else b ∷ bs

-- helper: the decimal places that digits after a comma spell, 0 if the text begins with no comma or they spell none
abbrev pub places_at : List ℕ → ℕ
places_at [] = 0
places_at (b ∷ bs) = if b == 44 then unwrap_or (places_of (take_while is_ascii_digit (after_blanks bs))) 0 else 0

-- helper: the decimal places of a column, by the text after its name
abbrev pub places_after : List ℕ → ℕ
places_after bs = places_at (after_blanks bs)

-- the keys of the pieces of a text between its first quote and its second, its third and its fourth, and so on, after a
-- piece that was begun, if one was
abbrev pub names_after : Option (List ℕ) → List ℕ → List (List ℕ)
names_after begun [] = []
names_after None (b ∷ bs) = if b == 34 then names_after (Some []) bs else names_after None bs
names_after (Some name) (b ∷ bs) =
    if b == 34 then key_of name (places_after bs) ∷ names_after None bs else names_after (Some (name ++ b ∷ [])) bs

-- the keys in some texts, in order
abbrev pub names_in_texts : List JobText → List (List ℕ)
names_in_texts [] = []
names_in_texts (job ∷ jobs) = names_after None job.text ++ names_in_texts jobs

-- the keys in the texts of a file; one whose texts can't be listed has none
abbrev pub names_of_texts : Result (List JobText) TextFault → List (List ℕ)
names_of_texts (Ok jobs) = names_in_texts jobs
names_of_texts (Err fault) = []
