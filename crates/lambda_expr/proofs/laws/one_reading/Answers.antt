use Rattle.lambda_expr.proofs.Lambdas.{one_lambda}
use Rattle.lambda_expr.proofs.laws.one_reading.Goals as goal

pub returns : goal.returns
returns c = one_lambda
