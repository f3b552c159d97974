use Rattle.std.proofs.Common.{FitsSigned, rules, w64}
use Rattle.std.specs.Prelude.{int_rem}
use Rattle.lambda_values.proofs.Quotients.{divides}
use Rattle.lambda_values.proofs.quotient.take_remainder.Goals as goal

pub returns : goal.returns
returns c =
    let fits : FitsSigned w64 c.wrapping_rem.result = search rules in
    divides c.args.y (int_rem c.args.x c.args.y) c.wrapping_rem.result c.if-y-eq0.false fits (search rules)
