use Rattle.lambda_expr.proofs.OneAnswer.{same_lambda, same_refusal, only_memory}
use Rattle.lambda_expr.proofs.laws.one_answer.Goals as goal

pub returns : goal.returns
returns c = record { lambda = same_lambda; refusal = same_refusal; apart = only_memory }
