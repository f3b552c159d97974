-- Condition: that two lists of numbers are equal is a fact.
use Rattle.std.proofs.Common.{◌≡◌, ℤ, List}
use Rattle.std.proofs.Props.{props}

pub one_list : (xs ys : List ℤ) → IsProp (xs ≡ ys)
one_list xs ys = hlevel props
