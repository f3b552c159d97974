-- Condition: what is taken from the beginning of the bytes of a report.
use Rattle.std.specs.Prelude.{◌≡◌, ◌++◌, ◌||◌, ◌==◌, ℕ, ℤ, Bool, not, List, [], ◌∷◌, Option, None, Some, codes}
use Rattle.std.specs.Char.{is_ascii_digit}
use Rattle.std.specs.Fmt.{decimal, signed_decimal}
use Rattle.std.specs.List.{list_all}
use denote.Ref.{Bor}
use Rattle.report.specs.AnswerForms.{further}

-- this was taken, and this is left
abbrev pub IsTaken : {X : Type 0} → X → List ℕ → Option (X × Bor (List ℕ)) → Type 0
IsTaken x rest None = ⊥
IsTaken x rest (Some taken) = (taken.0 ≡ x) × (taken.1.now ≡ rest)

-- these bytes were taken, and these are left
abbrev pub AreTaken : List ℕ → List ℕ → Option (Bor (List ℕ) × Bor (List ℕ)) → Type 0
AreTaken text rest None = ⊥
AreTaken text rest (Some taken) = (taken.0.now ≡ text) × (taken.1.now ≡ rest)

-- a quote or a backslash
abbrev pub ends_text : ℕ → Bool
ends_text b = (b == 34) || (b == 92)

-- a text that stands in quotes as it is
abbrev pub is_plain : List ℕ → Bool
is_plain text = list_all (λ b. not (ends_text b)) text

-- a digit or a minus
abbrev pub is_number_byte : ℕ → Bool
is_number_byte b = (b == 45) || is_ascii_digit b

-- the place of an item, or that there is none, and what follows it
abbrev pub place_then : Option ℕ → List ℕ → List ℕ
place_then None rest = codes "null" ++ rest
place_then (Some place) rest = decimal place ++ rest

-- numbers, with a comma between two of them
abbrev pub parted : List ℤ → List ℕ
parted [] = []
parted (v ∷ vs) = signed_decimal v ++ further (codes ",") vs
