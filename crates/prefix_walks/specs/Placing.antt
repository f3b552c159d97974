-- Condition: items whose places count up or are listed.
use Rattle.std.specs.Prelude.{◌≡◌, ℕ, ◌+◌, ◌<◌, ◌≤◌, ◌^◌, ℤ, List, [], ◌∷◌, length, map, Option, Some, None}
use Rattle.std.specs.List.{range_with_len}
use Rattle.lambda_values.specs.declared.item.Item.{Item}
use Rattle.trace.specs.Cover.{placed}

-- values at listed places
abbrev pub listed : List ℕ → List ℤ → List Item
listed [] vs = []
listed (p ∷ ps) [] = []
listed (p ∷ ps) (v ∷ vs) = record { origin = p; value = v } ∷ listed ps vs

-- values at places that count up from the first one, or are listed
abbrev pub items_at : Option ℕ → List ℕ → List ℤ → List Item
items_at (Some first) places vs = placed first vs
items_at None places vs = listed places vs

-- places that count up stay below 2^62; of listed ones there is one for each value
pub record FitsPlaces (start : Option ℕ) (places : List ℕ) (vs : List ℤ) : Type 0 where
  pub below : (first : ℕ) → start ≡ Some first → first + length vs ≤ 2 ^ 62
  pub paired : start ≡ None → length places ≡ length vs

-- a buffer for 1,024 items that has this number of them
pub record IsBuffer (start : Option ℕ) (places : List ℕ) (values : List ℤ) (count : ℕ) : Type 0 where
  pub few : count ≤ 1024
  pub below : (first : ℕ) → start ≡ Some first → first + count < 2 ^ 64
  pub places_size : length places ≡ 1024
  pub values_size : length values ≡ 1024

-- these items have these values, and places that count up from the first one, if it is given
pub record IsAt (start : Option ℕ) (xs : List Item) (vs : List ℤ) : Type 0 where
  pub values : map (λ (x : Item). x.value) xs ≡ vs
  pub count_up : (first : ℕ) → start ≡ Some first → xs ≡ placed first vs
  pub below : (first : ℕ) → start ≡ Some first → first + length vs ≤ 2 ^ 62

-- the places that are listed for these items
abbrev pub places_for : Option ℕ → List Item → List ℕ
places_for (Some first) xs = []
places_for None xs = map (λ (x : Item). x.origin) xs

-- places that count up from the first one, listed; or listed ones
abbrev pub places_from : Option ℕ → List ℕ → List ℕ
places_from (Some first) places = range_with_len first (length places)
places_from None places = places
