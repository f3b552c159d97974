-- Condition: folds of the values of a batch.
use Rattle.std.specs.Prelude.{ℕ, zero, suc, ◌+◌, ℤ, pos, Bool, true, false, List, [], ◌∷◌, Option, Some, None, fold}
use Rattle.lambda_values.specs.declared.item.Item.{Item}
use Rattle.reduce_ops.specs.Folds.{ones}

-- a value, or a 1 in its place, as a count folds it
abbrev pub each_one : Bool → ℤ → ℤ
each_one true v = pos 1
each_one false v = v

-- the fold of values, if there are any
abbrev pub folded_values : (ℤ → ℤ → ℤ) → Bool → List ℤ → Option ℤ
folded_values f counts [] = None
folded_values f counts (v ∷ vs) = Some (fold (λ a w. f a (each_one counts w)) (each_one counts v) vs)

-- a count folds a 1 for each item
abbrev pub counted_as : Bool → List Item → List Item
counted_as false xs = xs
counted_as true xs = ones xs

-- the sum of the natural numbers below n
abbrev pub total_below : ℕ → ℕ
total_below zero = 0
total_below (suc n) = total_below n + n
