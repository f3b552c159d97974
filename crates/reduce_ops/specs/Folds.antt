-- Meaning: folds of the values that a walk gives.
use Rattle.std.specs.Prelude.{ℤ, pos, ◌+ℤ◌, List, [], ◌∷◌, Option, Some, None, Result, Ok, Err}
use Rattle.lambda_values.specs.declared.item.Item.{Item}
use Rattle.trace.specs.declared.item.Fault.{Fault}
use Rattle.trace.specs.declared.item.End.{End}
use Rattle.trace.specs.declared.item.End.TheVariants as end
use Rattle.trace.specs.Trace.{Trace}

-- the left fold of the values from a start
abbrev pub fold_from : (ℤ → ℤ → ℤ) → ℤ → List Item → ℤ
fold_from f a [] = a
fold_from f a (x ∷ xs) = fold_from f (f a x.value) xs

-- the left fold from the first value, or nothing without items
abbrev pub fold_items : (ℤ → ℤ → ℤ) → List Item → Option ℤ
fold_items f [] = None
fold_items f (x ∷ xs) = Some (fold_from f x.value xs)

-- the fold of what was folded so far, if anything, and one more value
abbrev pub onto : (ℤ → ℤ → ℤ) → Option ℤ → ℤ → Option ℤ
onto f None v = Some v
onto f (Some a) v = Some (f a v)

-- the fault that ended a walk, or else this answer
abbrev pub unless_faulted : {A : Type 0} → End → A → Result A Fault
unless_faulted end.Done a = Ok a
unless_faulted (end.Fault f) a = Err f

-- the fold without an identity (`LongStream.reduce(LongBinaryOperator)`, `min`, `max`)
abbrev pub reduced : (ℤ → ℤ → ℤ) → Trace → Result (Option ℤ) Fault
reduced f t = unless_faulted t.ending (fold_items f t.items)

-- the fold from an identity (`LongStream.reduce(long, LongBinaryOperator)`, `sum`)
abbrev pub reduced_from : (ℤ → ℤ → ℤ) → ℤ → Trace → Result ℤ Fault
reduced_from f i t = unless_faulted t.ending (fold_from f i t.items)

-- the sum of the values, of any size
abbrev pub total : List Item → ℤ
total [] = pos 0
total (x ∷ xs) = x.value +ℤ total xs

-- these items, each with the value 1, as a count folds them
abbrev pub ones : List Item → List Item
ones [] = []
ones (x ∷ xs) = record { origin = x.origin; value = pos 1 } ∷ ones xs
