use Rattle.std.proofs.Common.{FitsSigned, rules, w64}
use Rattle.lambda_values.specs.Operators.{rounded_down}
use Rattle.lambda_values.specs.Wrap.{wrap}
use Rattle.lambda_values.proofs.Quotients.{divides}
use Rattle.lambda_values.proofs.quotient.floor_divide.Goals as goal

pub returns : goal.returns
returns c =
    let fits : FitsSigned w64 c.round_down.result = search rules in
    divides c.args.y (wrap (rounded_down c.args.x c.args.y)) c.round_down.result c.if-y-eq0.false fits (search rules)
