-- Condition: the walk that a batch of lanes describes.
use Rattle.std.specs.Prelude.{◌≡◌, ℕ, zero, suc, ◌+◌, ◌<◌, ◌≤◌, ◌^◌, ℤ, pos, ◌+ℤ◌, Bool, true, false, not, List, []}
use Rattle.std.specs.Prelude.{◌∷◌, ◌++◌, length, slice_index, Option, Some, None, if◌then◌else◌}
use Rattle.lambda_values.specs.declared.fault.FaultKind.{FaultKind}
use Rattle.lambda_values.specs.Operators.{comparison_value}
use Rattle.lambda_values.specs.Wrap.{wrap}
use Rattle.lambda_values.specs.declared.item.Item.{Item}
use Rattle.trace.specs.declared.item.End.{End}
use Rattle.trace.specs.declared.item.End.TheVariants as end
use Rattle.trace.specs.declared.feeding.Fed.{Fed}
use Rattle.trace.specs.declared.feeding.Fed.TheVariants as fed
use Rattle.trace.specs.Trace.{Trace, trace}
use Rattle.batch_eval.specs.Lanes.{at, is_set}
use Rattle.batch_eval.specs.NumberTests.{seen_of}
use Rattle.batch_eval.specs.declared.number_test.NumberTest.{NumberTest}

-- what n lanes give, one after the other
abbrev pub gathered : ℕ → (ℕ → List Item) → List Item
gathered zero f = []
gathered (suc n) f = gathered n f ++ f n

-- one item of each of n lanes
abbrev pub lanes : ℕ → (ℕ → Item) → List Item
lanes n g = gathered n (λ k. g k ∷ [])

-- the place of a lane: counted up from a start, or listed
abbrev pub origin_at : Option ℕ → List ℕ → ℕ → ℕ
origin_at (Some start) origins k = start + k
origin_at None origins k = slice_index origins k

-- the item of a lane
abbrev pub item_at : Option ℕ → List ℕ → List ℤ → ℕ → Item
item_at start origins values k = record { origin = origin_at start origins k; value = at values k }

-- the item of a lane whose place and value count up
abbrev pub counted_item : ℕ → ℤ → ℕ → Item
counted_item place first k = record { origin = place + k; value = wrap (first +ℤ pos k) }

-- numbers that go up by a step: the one at a lane
abbrev pub going_up : ℤ → ℤ → ℕ → ℤ
going_up first by zero = first
going_up first by (suc k) = wrap (going_up first by k +ℤ by)

-- the items of places and values, one after the other
abbrev pub laid_items : Option ℕ → List ℕ → List ℤ → List Item
laid_items start places values = lanes (length values) (item_at start places values)

-- the first n lanes that pass, in turn
abbrev pub picked : (ℕ → Bool) → ℕ → List ℕ
picked p zero = []
picked p (suc n) = picked p n ++ (if p n then n ∷ [] else [])

-- how a walk goes on after a stop: the old end, or the fault of this stage at this place
abbrev pub end_after : End → ℕ → ℕ → Option FaultKind → End
end_after e stage origin None = e
end_after e stage origin (Some kind) = end.Fault (record { kind = kind; stage = stage; origin = Some origin })

-- what becomes of items after which the walk ends so
abbrev pub fed_of : End → Fed
fed_of end.Done = fed.More
fed_of (end.Fault f) = fed.Fault f

-- the places that count up stay below 2^64
abbrev pub CountsUp : Option ℕ → ℕ → Type 0
CountsUp (Some start) n = start + n < 2 ^ 64
CountsUp None n = Unit {0}

-- the first n lanes whose flag is set
abbrev pub passing : List ℤ → ℕ → List ℕ
passing flags n = picked (λ k. is_set (at flags k)) n

-- whether a comparison with a number holds
abbrev pub holds : NumberTest → ℤ → Bool
holds t z = comparison_value t.comparison (seen_of t.seen z) t.number

-- the items of lanes whose flag is set, one after the other
abbrev pub flagged_items : (ℤ → Bool) → Option ℕ → List ℕ → (ℕ → ℤ) → List ℤ → List Item
flagged_items set start origins value flags = gathered (length flags)
    (λ k. if set (at flags k) then record { origin = origin_at start origins k; value = value k } ∷ [] else [])

-- the items whose flag is set, one after the other
abbrev pub set_items : List ℤ → List Item → List Item
set_items flags [] = []
set_items [] (x ∷ xs) = []
set_items (f ∷ flags) (x ∷ xs) = if is_set f then x ∷ set_items flags xs else set_items flags xs

-- a walk over the items whose flag is set
abbrev pub flagged_walk : List ℤ → Trace → Trace
flagged_walk flags t = trace (set_items flags t.items) t.ending

-- the values of the first n lanes whose flag is set, one after the other
abbrev pub flagged_values : (ℤ → Bool) → (ℕ → ℤ) → List ℤ → ℕ → List ℤ
flagged_values set value flags zero = []
flagged_values set value flags (suc n) =
    flagged_values set value flags n ++ (if set (at flags n) then value n ∷ [] else [])

-- whether a flag is as it is wanted
abbrev pub wants : Bool → ℤ → Bool
wants true z = is_set z
wants false z = not (is_set z)

-- the places of those among the first n lanes whose flag is as it is wanted
abbrev pub wanted : Bool → List ℤ → ℕ → List ℕ
wanted kind flags n = picked (λ k. wants kind (at flags k)) n

-- a stop that is at one of n lanes, if it is a fault's
abbrev pub StopsInside : Option FaultKind → ℕ → ℕ → Type 0
StopsInside None live n = Unit {0}
StopsInside (Some kind) live n = live < n

-- registers of 1,024 lanes
pub record IsSized (live : ℕ) (start : Option ℕ) (origins : List ℕ) (values : List ℤ) (spare : List ℤ) : Type 0 where
  pub live_lanes : live ≤ 1024
  pub counts : CountsUp start live
  pub origins_length : length origins ≡ 1024
  pub values_length : length values ≡ 1024
  pub spare_length : length spare ≡ 1024
