-- Design: items, and sets that find those whose value came before.
use Rattle.std.specs.Prelude.{◌≡◌, ◌*◌, ◌/◌, ◌%◌, ◌^◌, ◌==◌, ◌≤◌, ℕ, ℤ, Bool, true, false, unsigned_abs, List, [], ◌∷◌}
use Rattle.std.specs.Prelude.{length, take, Option, None, Some, ⊤}
use Rattle.std.specs.Ordering.{int_eq}
use Rattle.std.specs.HashSet.{contains}
use Rattle.lambda_values.specs.declared.item.Item.{Item}
use Rattle.sort_ops.specs.declared.lookup.Lookup.{Lookup}
use Rattle.sort_ops.specs.declared.noted.Noted.{Noted}
use Rattle.sort_ops.specs.Firsts.{is_among}
use Rattle.sort_ops.specs.Parts.{values_in}

-- the bits of a value, spread over 64
abbrev pub spread : ℤ → ℕ
spread v = unsigned_abs v * 11400714819323198485 % 2 ^ 64

-- values are spread over sixteen classes; the class of a value
abbrev pub class_of : ℤ → ℕ
class_of v = (spread v / 2 ^ 32) % 16

-- whether a value is in a class; where none is given, each value is
abbrev pub is_in : Option ℕ → ℤ → Bool
is_in None v = true
is_in (Some c) v = class_of v == c

-- no value of this class comes twice
abbrev pub AreOnce : Option ℕ → List Item → Type 0
AreOnce c [] = ⊤
AreOnce c (x ∷ xs) = (is_in c x.value ≡ true → is_among x.value (values_in xs) ≡ false) × AreOnce c xs

-- a set that isn't partial has of the values of its class just those of these items
abbrev pub Knows : Lookup → List Item → Type 0
Knows l xs = l.partial ≡ false → (v : ℤ) → is_in l.class v ≡ true → contains int_eq l.seen v ≡ is_among v (values_in xs)

-- each value of these pairs is one of these values
abbrev pub AreAmong : List ℤ → List (ℤ × ℤ) → Type 0
AreAmong vs [] = ⊤
AreAmong vs (p ∷ ps) = (is_among p.0 vs ≡ true) × (is_among p.1 vs ≡ true) × AreAmong vs ps

-- each noted value is the value of one of these items
abbrev pub AreNoted : Noted → List Item → Type 0
AreNoted noted xs = AreAmong (values_in xs) noted.values.items

-- the first items were looked up: if that isn't partial, they have different values, and a set has just these values
pub record AreKnown (xs : List Item) (known : ℕ) (l : Lookup) : Type 0 where
  pub within : known ≤ length xs
  pub once : l.partial ≡ false → AreOnce None (take known xs)
  pub all : l.class ≡ None
  pub knows : Knows l (take known xs)
