-- Meaning: sums that have to stay within 64 bits at each item.
use Rattle.std.specs.Prelude.{ℕ, ℤ, pos, ◌+ℤ◌, if◌then◌else◌, List, [], ◌∷◌, Some, Result, Ok, Err}
use Rattle.lambda_values.specs.Operators.{is_long}
use Rattle.lambda_values.specs.declared.fault.FaultKind.TheVariants as kind
use Rattle.lambda_values.specs.declared.item.Item.{Item}
use Rattle.trace.specs.declared.item.Fault.{Fault}
use Rattle.trace.specs.declared.item.End.{End}
use Rattle.trace.specs.Trace.{Trace}
use Rattle.reduce_ops.specs.Folds.{unless_faulted}

-- the sum from a start, or the first item after which it is outside 64 bits (`Math.addExact`)
abbrev pub exact_from : ℤ → List Item → Result ℤ Item
exact_from z [] = Ok z
exact_from z (x ∷ xs) = if is_long (z +ℤ x.value) then exact_from (z +ℤ x.value) xs else Err x

-- helper: a sum, or the fault that ended the walk; at an item after which the sum is outside 64 bits the terminal, the
-- stage with this number, has a fault, which comes before the fault of the end
abbrev pub exact_end : ℕ → End → Result ℤ Item → Result ℤ Fault
exact_end n e (Ok z) = unless_faulted e z
exact_end n e (Err x) = Err (record { kind = kind.Overflow; stage = n; origin = Some x.origin })

-- the exact sum of a walk by the terminal with this number (`LongStream.reduce(0, Math::addExact)`)
abbrev pub exact_sum : ℕ → Trace → Result ℤ Fault
exact_sum n t = exact_end n t.ending (exact_from (pos 0) t.items)

-- an exact sum, or the fault that ended it, and what comes after it
abbrev pub sum_on : ℕ → Result ℤ Fault → Trace → Result ℤ Fault
sum_on n (Ok z) u = exact_end n u.ending (exact_from z u.items)
sum_on n (Err f) u = Err f
