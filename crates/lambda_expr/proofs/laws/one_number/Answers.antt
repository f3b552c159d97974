use Rattle.lambda_expr.proofs.NumberLaws.{same_number, same_fault, never_both}
use Rattle.lambda_expr.proofs.laws.one_number.Goals as goal

pub returns : goal.returns
returns c = record { number = same_number; refusal = same_fault; apart = never_both }
