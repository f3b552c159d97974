use Rattle.lambda_values.specs.Lambda.{body_of}
use Rattle.lambda_expr.proofs.NoPlaces.{without_cells}
use Rattle.lambda_expr.proofs.PlacelessCells.{placeless_cells}
use Rattle.lambda_expr.proofs.laws.without_cells.Goals as goal

pub returns : goal.returns
returns c = record {
  placeless = without_cells;
  cells = λ text want l s. placeless_cells (body_of l.body) (without_cells text want l s);
}
