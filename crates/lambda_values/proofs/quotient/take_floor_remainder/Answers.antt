use Rattle.std.proofs.Common.{◌≡◌, ◌<◌, ◌^◌, FitsSigned, ap, of_z, rules, w64}
use Rattle.lambda_values.specs.Operators.{rounded_down}
use Rattle.lambda_values.specs.Wrap.{wrap}
use Rattle.std.proofs.Common.{Ok}
use Rattle.lambda_values.proofs.Quotients.{divisor_stays, floor_rest}
use Rattle.lambda_values.proofs.quotient.take_floor_remainder.Goals as goal

pub returns : goal.returns
returns c =
    let x = c.args.x in
    let y = c.args.y in
    let d = c.round_down.result in
    let fits : FitsSigned w64 d = search rules in
    let small : of_z w64 x < 2 ^ 64 = search rules in
    let is : d ≡ wrap (rounded_down x y) = search rules in
    rw (divisor_stays y c.if-y-eq0.false) (ap Ok (floor_rest x y d small c.ranges.x c.ranges.y fits is))
