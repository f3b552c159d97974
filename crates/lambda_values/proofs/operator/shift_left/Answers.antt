use Rattle.std.proofs.Common.{◌≡◌, ◌<◌, ◌^◌, ◌∙◌, ap, of_z, pos, ◌*ℤ◌, rules, w64}
use Rattle.lambda_values.specs.Wrap.{wrap}
use Rattle.lambda_values.specs.Operators.{low_six_bits}
use Rattle.lambda_values.proofs.Shifts.{shift_left_wraps}
use Rattle.lambda_values.proofs.operator.shift_left.Goals as goal

pub returns : goal.returns
returns c =
    let k = c.shift_distance.result in
    let small : of_z w64 c.args.x < 2 ^ 64 = search rules in
    let is : k ≡ low_six_bits c.args.count = search rules in
    shift_left_wraps c.args.x k small c.ranges.x c.shift_distance.ensures.bound
    ∙ ap (λ k. wrap (c.args.x *ℤ pos (2 ^ k))) is
