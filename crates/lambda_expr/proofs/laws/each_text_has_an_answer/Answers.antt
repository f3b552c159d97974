use Rattle.lambda_expr.proofs.EachText.{each_text}
use Rattle.lambda_expr.proofs.laws.each_text_has_an_answer.Goals as goal

pub returns : goal.returns
returns c = each_text
