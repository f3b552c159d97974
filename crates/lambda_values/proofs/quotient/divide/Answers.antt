use Rattle.std.proofs.Common.{rules, FitsSigned, w64}
use Rattle.lambda_values.proofs.Quotients.{quotient_is}
use Rattle.lambda_values.proofs.quotient.divide.Goals as goal

pub returns : goal.returns
returns c =
    let fits : FitsSigned w64 c.wrapping_div.result = search rules in
    quotient_is c.args.x c.args.y c.wrapping_div.result c.ranges.x c.ranges.y fits c.if-y-eq0.false
    c.wrapping_div.ensures
