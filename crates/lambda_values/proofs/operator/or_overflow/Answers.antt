use Rattle.std.proofs.Common.{◌∙◌}
use Rattle.lambda_values.proofs.ExactLemmas.{ok_or_exact}
use Rattle.lambda_values.proofs.operator.or_overflow.Goals as goal

pub returns : goal.returns
returns c = λ z h. c.ok_or.ensures.value ∙ ok_or_exact c.args.value z h
