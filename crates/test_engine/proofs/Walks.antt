-- Walks that end without a fault: no place in them decides how they end.
use Rattle.std.proofs.Common.{◌≡◌, ℕ, ℤ, suc, ◌≤◌, ◌<◌, Bool, true, false, List, [], ◌∷◌, length, None, refl, ap, arith}
use Rattle.trace.specs.declared.item.End.{End}
use Rattle.trace.specs.declared.item.End.TheVariants as end
use Rattle.lambda_values.specs.declared.fault.FaultKind.TheVariants as kind
use Rattle.trace.specs.Trace.{Trace, trace}
use Rattle.early_stop.specs.Decisive.{Decides}
use Rattle.test_engine.specs.Lists.{items_from, walk_of}

abbrev has_fault : End → Bool
has_fault end.Done = false
has_fault (end.Fault f) = true

items_length : (place : ℕ) (xs : List ℤ) → length (items_from place xs) ≡ length xs
items_length place [] = refl
items_length place (x ∷ xs) = ap suc (items_length (suc place) xs)

-- after its last number the walk could end with a fault
pub no_place_decides : (xs : List ℤ) (c : ℕ) → c ≤ length xs → Decides (λ (t : Trace). t.ending) (walk_of xs) c → ⊥
no_place_decides xs c few decides =
    let l : length (items_from 0 xs) ≡ length xs = items_length 0 xs in
    let e = decides (trace (items_from 0 xs) (end.Fault (record { kind = kind.Overflow; stage = 0; origin = None })))
    ((λ _. refl), (λ (short : length (items_from 0 xs) < c). absurd (omega arith))) in
    let z : true ≡ false = ap has_fault e in cc
