-- Meaning: the prefix of a walk.
use Rattle.std.specs.Prelude.{ℕ, suc, ℤ, Bool, true, false, not, ◌&&◌, nat_lt, if◌then◌else◌, List, [], ◌∷◌, ◌++◌}
use Rattle.std.specs.Prelude.{length, Option, Some, None}
use Rattle.lambda_values.specs.declared.fault.FaultKind.TheVariants.{OutOfArray}
use Rattle.lambda_values.specs.declared.item.Item.{Item}
use Rattle.trace.specs.declared.item.End.{End}
use Rattle.trace.specs.declared.item.End.TheVariants as end
use Rattle.trace.specs.Trace.{Trace, trace}
use Rattle.reduce_ops.specs.Folds.{fold_items}

-- positions from the first number up to, not with, the second; without them, all
abbrev pub Range : Type 0
Range = Option (ℕ × ℕ)

-- whether a position is one of these
abbrev pub is_within : Range → ℕ → Bool
is_within None q = true
is_within (Some (from, to)) q = not (nat_lt q from) && nat_lt q to

-- whether the positions end after this many items
abbrev pub ends_after : Range → ℕ → Bool
ends_after None count = false
ends_after (Some (from, to)) count = nat_lt count to

-- helper: an item with another value, at its place
abbrev pub revalued : Item → ℤ → Item
revalued x v = record { origin = x.origin; value = v }

-- helper: a value after a fold, if there is one
abbrev pub put_on : (ℤ → ℤ → ℤ) → Option ℤ → ℤ → ℤ
put_on f None v = v
put_on f (Some a) v = f a v

-- each item at a position of the range becomes the left fold of the items at positions of the range up to and with
-- itself; the others stay. `before` are the items at positions of the range so far, and q is the position of the first
-- of the list
abbrev pub running : (ℤ → ℤ → ℤ) → Range → ℕ → List Item → List Item → List Item
running f r q before [] = []
running f r q before (x ∷ xs) =
    if is_within r q
    then revalued x (put_on f (fold_items f before) x.value) ∷ running f r (suc q) (before ++ x ∷ []) xs
    else x ∷ running f r (suc q) before xs

-- the positions end after the last item: no item, and a fault of this stage at no item
abbrev pub out_of_array : ℕ → Trace
out_of_array n = trace [] (end.Fault (record { kind = OutOfArray; stage = n; origin = None }))

-- helper: of a walk that is done
abbrev pub prefixed_items : (ℤ → ℤ → ℤ) → Range → ℕ → List Item → Trace
prefixed_items f r n xs = if ends_after r (length xs) then out_of_array n else trace (running f r 0 [] xs) end.Done

-- helper: of a walk with this end; a fault leaves no items
abbrev pub prefixed_to : (ℤ → ℤ → ℤ) → Range → ℕ → List Item → End → Trace
prefixed_to f r n xs end.Done = prefixed_items f r n xs
prefixed_to f r n xs (end.Fault g) = trace [] (end.Fault g)

-- what a prefix, the stage with this number, makes of a walk (`Arrays.parallelPrefix` of all of its values)
abbrev pub prefixed : (ℤ → ℤ → ℤ) → Range → ℕ → Trace → Trace
prefixed f r n t = prefixed_to f r n t.items t.ending
