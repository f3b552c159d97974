-- Meaning: the name that a column has where it is looked at with decimal places.
use Rattle.std.specs.Prelude.{ℕ, zero, suc, ◌-◌, ◌==◌, ◌&&◌, nat_le, List, [], ◌∷◌, ◌++◌, Option, Some, None}
use Rattle.std.specs.Prelude.{if◌then◌else◌}
use Rattle.std.specs.Char.{is_ascii_digit}

-- a column that is looked at without decimal places has its own name; with places, its name, a quote and their number:
-- no job can name a column with a quote
abbrev pub key_of : List ℕ → ℕ → List ℕ
key_of name zero = name
key_of name (suc p) = name ++ 34 ∷ suc p ∷ []

-- the number of places that a text spells: 0 to 18, in decimal, without zeros in front
abbrev pub places_of : List ℕ → Option ℕ
places_of [] = None
places_of (a ∷ []) = if is_ascii_digit a then Some (a - 48) else None
places_of (a ∷ b ∷ []) = if (a == 49) && nat_le 48 b && nat_le b 56 then Some (b - 38) else None
places_of (a ∷ b ∷ c ∷ bs) = None
