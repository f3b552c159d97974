use Rattle.std.proofs.Common.{◌≡◌, ◌∙◌, ap, FitsSigned, Ok, pos, rules, w64}
use Rattle.std.proofs.lemmas.Int.{to_z-of_z}
use Rattle.lambda_values.specs.Operators.{rounded_down}
use Rattle.batch_eval.specs.Powers.{power}
use Rattle.batch_eval.proofs.PowerLemmas.{down_by_power}
use Rattle.batch_eval.proofs.power.FloorDivideByPowerKernel.apply.Goals as goal

pub returns : goal.returns
returns c =
    let r = c.shifted_down.result in
    let fits : FitsSigned w64 r = search rules in
    let is : r ≡ rounded_down c.args.x (pos (power c.args.exponent)) = search rules in
    ap Ok (to_z-of_z w64 r fits ∙ is) ∙ down_by_power c.args.x c.args.exponent c.ranges.x
