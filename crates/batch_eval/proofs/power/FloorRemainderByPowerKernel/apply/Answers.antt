use Rattle.std.proofs.Common.{◌≡◌, ◌<◌, ◌^◌, FitsSigned, of_z, pos, ◌*ℤ◌, rules, w64}
use Rattle.lambda_values.specs.Wrap.{wrap}
use Rattle.lambda_values.specs.Operators.{rounded_down}
use Rattle.batch_eval.specs.Powers.{power}
use Rattle.batch_eval.proofs.PowerLemmas.{rest_down_by_power}
use Rattle.batch_eval.proofs.power.FloorRemainderByPowerKernel.apply.Goals as goal

pub returns : goal.returns
returns c =
    let x = c.args.x in
    let k = c.args.exponent in
    let r = c.cleared.result in
    let small : of_z w64 x < 2 ^ 64 = search rules in
    let low : of_z w64 r < 2 ^ 64 = search rules in
    let fits : FitsSigned w64 r = search rules in
    let is : r ≡ wrap (rounded_down x (pos (power k)) *ℤ pos (power k)) = search rules in
    rest_down_by_power x k r small low c.ranges.x fits is
