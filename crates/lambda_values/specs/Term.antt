-- Meaning: expressions without their places in memory.
use Rattle.std.specs.Prelude.{ℕ, ℤ, Bool, List}
use Rattle.lambda_values.specs.declared.operator.UnaryOperator.{UnaryOperator}
use Rattle.lambda_values.specs.declared.operator.BinaryOperator.{BinaryOperator}
use Rattle.lambda_values.specs.declared.operator.Comparison.{Comparison}
use Rattle.lambda_values.specs.declared.operator.Connective.{Connective}
use Rattle.lambda_values.specs.declared.expr.LongExpr.{LongExpr}
use Rattle.lambda_values.specs.declared.expr.LongExpr.TheVariants as long_expr
use Rattle.lambda_values.specs.declared.expr.BoolExpr.{BoolExpr}
use Rattle.lambda_values.specs.declared.expr.BoolExpr.TheVariants as bool_expr

mutual
  -- an expression whose value is a number; parameters count from 0, a reference is the name of an earlier job, a cell
  -- the
  -- name of a column, and a row the place of the item
  pub data Long : Type 0 where
    number : ℤ → Long
    parameter : ℕ → Long
    reference : List ℕ → Long
    cell : List ℕ → Long
    row : Long
    unary : UnaryOperator → Long → Long
    binary : BinaryOperator → Long → Long → Long
    choose : Truth → Long → Long → Long

  -- an expression whose value is a boolean
  pub data Truth : Type 0 where
    literal : Bool → Truth
    compare : Comparison → Long → Long → Truth
    opposite : Truth → Truth
    connect : Connective → Truth → Truth → Truth
    choose_truth : Truth → Truth → Truth → Truth

-- the term that an expression of the program means
abbrev mutual
  pub long_of : LongExpr → Long
  long_of (long_expr.Number z) = number z
  long_of (long_expr.Parameter n) = parameter n
  long_of (long_expr.Reference name) = reference name.value
  long_of (long_expr.Cell name) = cell name.value
  long_of long_expr.Row = row
  long_of (long_expr.Unary' o p a) = unary o (long_of a)
  long_of (long_expr.Binary' o p a b) = binary o (long_of a) (long_of b)
  long_of (long_expr.Choose' p c a b) = choose (truth_of c) (long_of a) (long_of b)

  pub truth_of : BoolExpr → Truth
  truth_of (bool_expr.Literal b) = literal b
  truth_of (bool_expr.Compare' o p a b) = compare o (long_of a) (long_of b)
  truth_of (bool_expr.Not' p a) = opposite (truth_of a)
  truth_of (bool_expr.Connect' o p a b) = connect o (truth_of a) (truth_of b)
  truth_of (bool_expr.Choose' p c a b) = choose_truth (truth_of c) (truth_of a) (truth_of b)
