-- Design: the expressions whose value doesn't depend on the place of the item.
use Rattle.std.specs.Prelude.{Bool, true, false, ◌&&◌, List, [], ◌∷◌}
use Rattle.lambda_values.specs.Lambda.{AbstractLambda, long, boolean, stream, pair}
use Rattle.lambda_values.specs.Streams.{Inner, range, range_closed, values}
use Rattle.lambda_values.specs.Term.{Long, number, parameter, reference, cell, row, unary, binary, choose, Truth}
use Rattle.lambda_values.specs.Term.{literal, compare, opposite, connect, choose_truth}

-- an expression has neither a cell nor a row in it
abbrev mutual
  pub long_is_placeless : Long → Bool
  long_is_placeless (number z) = true
  long_is_placeless (parameter n) = true
  long_is_placeless (reference name) = true
  long_is_placeless (cell name) = false
  long_is_placeless row = false
  long_is_placeless (unary o a) = long_is_placeless a
  long_is_placeless (binary o a b) = long_is_placeless a && long_is_placeless b
  long_is_placeless (choose c a b) = truth_is_placeless c && (long_is_placeless a && long_is_placeless b)

  pub truth_is_placeless : Truth → Bool
  truth_is_placeless (literal b) = true
  truth_is_placeless (compare o a b) = long_is_placeless a && long_is_placeless b
  truth_is_placeless (opposite a) = truth_is_placeless a
  truth_is_placeless (connect o a b) = truth_is_placeless a && truth_is_placeless b
  truth_is_placeless (choose_truth c a b) = truth_is_placeless c && (truth_is_placeless a && truth_is_placeless b)

abbrev pub each_is_placeless : List Long → Bool
each_is_placeless [] = true
each_is_placeless (e ∷ es) = long_is_placeless e && each_is_placeless es

-- no operand of an inner stream has one
abbrev pub inner_is_placeless : Inner → Bool
inner_is_placeless (range a b) = long_is_placeless a && long_is_placeless b
inner_is_placeless (range_closed a b) = long_is_placeless a && long_is_placeless b
inner_is_placeless (values es) = each_is_placeless es

-- nor has a lambda; of a lambda of two parameters only the form is kept
abbrev pub is_placeless : AbstractLambda → Bool
is_placeless (long e) = long_is_placeless e
is_placeless (boolean p) = truth_is_placeless p
is_placeless (stream g) = inner_is_placeless g
is_placeless (pair f) = true
