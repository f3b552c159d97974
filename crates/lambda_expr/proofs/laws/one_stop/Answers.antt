use Rattle.lambda_expr.specs.Heads.{ALambda}
use Rattle.lambda_expr.proofs.OneStop.{one_place}
use Rattle.lambda_expr.proofs.laws.one_stop.Goals as goal

pub returns : goal.returns
returns c = λ ws want. one_place (ALambda want) ws
