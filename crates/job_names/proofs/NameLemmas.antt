-- The names in a text, byte by byte.
use Rattle.std.proofs.Common.{◌≡◌, ◌<◌, ◌≤◌, ◌+◌, ◌-◌, ◌++◌, ◌∷◌, ◌∙◌, ◌==◌, [], ℕ, List, true, false, Option, Some}
use Rattle.std.proofs.Common.{None, IfSome, refl, ap, arith, length, take, drop, get_or}
use Rattle.std.proofs.lemmas.List.{drop_more, get_or-drop, length-drop, take_all, take_more}
use Rattle.job_names.specs.ColumnKeys.{key_of}
use Rattle.job_names.specs.JobNames.{names_after, places_after}

-- a byte more from a place on
byte_more : (text : List ℕ) (from at : ℕ) → from ≤ at → at < length text
    → take (at + 1 - from) (drop from text) ≡ take (at - from) (drop from text) ++ get_or text at 0 ∷ []
byte_more text from at h within =
    let one : at + 1 - from ≡ (at - from) + 1 = omega arith in
    let here : from + (at - from) ≡ at = omega arith in
    let inside : at - from < length (drop from text) = omega (arith, length-drop from text) in
    rw one (take_more (drop from text) (at - from) 0 inside
    ∙ ap (λ b. take (at - from) (drop from text) ++ b ∷ [])
    (get_or-drop from text (at - from) 0 ∙ ap (λ i. get_or text i 0) here))

-- the piece that was begun, if one was
abbrev pub begun_in : Option ℕ → List ℕ → ℕ → Option (List ℕ)
begun_in None text at = None
begun_in (Some from) text at = Some (take (at - from) (drop from text))

pub after_other : (begun : Option ℕ) (text : List ℕ) (at : ℕ) → at < length text → (get_or text at 0 == 34) ≡ false
    → IfSome begun (λ from. from ≤ at)
    → names_after (begun_in begun text at) (drop at text)
    ≡ names_after (begun_in begun text (at + 1)) (drop (at + 1) text)
after_other None text at h other low = rw (drop_more text at 0 h, other) refl
after_other (Some from) text at h other low = rw (drop_more text at 0 h, other, byte_more text from at low h) refl

pub after_first : (text : List ℕ) (at : ℕ) → at < length text → (get_or text at 0 == 34) ≡ true
    → names_after None (drop at text) ≡ names_after (begun_in (Some (at + 1)) text (at + 1)) (drop (at + 1) text)
after_first text at h quote =
    let none : at + 1 - (at + 1) ≡ 0 = omega arith in
    rw (drop_more text at 0 h, quote, none) refl

pub after_second : (text : List ℕ) (from at : ℕ) → at < length text → (get_or text at 0 == 34) ≡ true
    → names_after (begun_in (Some from) text at) (drop at text)
    ≡ key_of (take (at - from) (drop from text)) (places_after (drop (at + 1) text))
    ∷ names_after None (drop (at + 1) text)
after_second text from at h quote = rw (drop_more text at 0 h, quote) refl

-- the text after a place
pub rest_of : (text : List ℕ) (at : ℕ) → take (length text - at) (drop at text) ≡ drop at text
rest_of text at = take_all (length text - at) (drop at text) (omega (arith, length-drop at text))

-- the place where a piece was begun is before the next place
pub later : (begun : Option ℕ) (at : ℕ) → IfSome begun (λ from. from ≤ at) → IfSome begun (λ from. from ≤ at + 1)
later None at low = tt
later (Some from) at low = omega (arith, low)
