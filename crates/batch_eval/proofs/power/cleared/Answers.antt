use Rattle.std.proofs.Common.{◌≡◌, ◌<◌, ◌^◌, ◌∙◌, ap, FitsSigned, of_z, pos, ◌*ℤ◌, rules, w64}
use Rattle.lambda_values.specs.Wrap.{wrap}
use Rattle.lambda_values.specs.Operators.{low_six_bits, rounded_down}
use Rattle.lambda_values.proofs.Shifts.{shift_left_wraps}
use Rattle.batch_eval.specs.Powers.{power}
use Rattle.batch_eval.proofs.power.cleared.Goals as goal

pub returns : goal.returns
returns c =
    let s = c.shifted_down.result in
    let k = c.distance.result in
    let small : of_z w64 s < 2 ^ 64 = search rules in
    let fits : FitsSigned w64 s = search rules in
    let down : s ≡ rounded_down c.args.x (pos (power c.args.exponent)) = search rules in
    let is : k ≡ low_six_bits c.args.exponent = search rules in
    shift_left_wraps s k small fits c.distance.ensures.bound ∙ ap (λ k. wrap (s *ℤ pos (2 ^ k))) is
    ∙ ap (λ z. wrap (z *ℤ pos (power c.args.exponent))) down
