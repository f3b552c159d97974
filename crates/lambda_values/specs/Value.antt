-- Meaning: the value of an expression at an item.
use Rattle.std.specs.Prelude.{ℤ, pos, Bool, true, false, not, Result, Ok, unwrap_or}
use Rattle.tables.specs.Table.{cells_named}
use Rattle.lambda_values.specs.declared.item.Item.{Item}
use Rattle.lambda_values.specs.declared.fault.FaultKind.{FaultKind}
use Rattle.lambda_values.specs.declared.operator.Connective.{Connective}
use Rattle.lambda_values.specs.declared.operator.Connective.TheVariants as connective
use Rattle.lambda_values.specs.Earlier.{Numbers, cell_at, number_under}
use Rattle.lambda_values.specs.Operators.{on, unary_value, binary_value, comparison_value}
use Rattle.lambda_values.specs.Wrap.{wrap}
use Rattle.lambda_values.specs.Term.{Long, number, parameter, reference, cell, row, unary, binary, choose, Truth}
use Rattle.lambda_values.specs.Term.{literal, compare, opposite, connect, choose_truth}

-- the operand that a condition chooses (JLS 17, 15.25)
abbrev pub chosen : {A : Type 0} → Bool → A → A → A
chosen true p q = p
chosen false p q = q

-- the right operand is evaluated only if the left one does not decide (JLS 17, 15.23 and 15.24)
abbrev pub connected : Connective → Bool → Result Bool FaultKind → Result Bool FaultKind
connected connective.And p right = chosen p right (Ok false)
connected connective.Or p right = chosen p (Ok true) right

-- the value at the item x, with the numbers of earlier jobs under their `$` names (0 for a name that is not there), and
-- the cells of the row that the item came from under the names of columns (0 for a cell that is not there); operands
-- from left to right, and the first fault is the value (JLS 17, 15.7)
abbrev mutual
  pub long_value : Long → Item → Numbers → Result ℤ FaultKind
  long_value (number z) x env = Ok z
  long_value (parameter n) x env = Ok x.value
  long_value (reference name) x env = Ok (unwrap_or (number_under name env.earlier) (pos 0))
  long_value (cell name) x env = Ok (cell_at x.origin (cells_named name env.table))
  long_value row x env = Ok (wrap (pos x.origin))
  long_value (unary o a) x env = on (long_value a x env) (λ v. unary_value o v)
  long_value (binary o a b) x env = on (long_value a x env) (λ v. on (long_value b x env) (λ w. binary_value o v w))
  long_value (choose c a b) x env = on (truth_value c x env) (λ t. chosen t (long_value a x env) (long_value b x env))

  pub truth_value : Truth → Item → Numbers → Result Bool FaultKind
  truth_value (literal b) x env = Ok b
  truth_value (compare o a b) x env = on (long_value a x env)
      (λ v. on (long_value b x env) (λ w. Ok (comparison_value o v w)))
  truth_value (opposite a) x env = on (truth_value a x env) (λ p. Ok (not p))
  truth_value (connect o a b) x env = on (truth_value a x env) (λ p. connected o p (truth_value b x env))
  truth_value (choose_truth c a b) x env =
      on (truth_value c x env) (λ t. chosen t (truth_value a x env) (truth_value b x env))
