use Rattle.std.proofs.Common.{◌≡◌, ◌<◌, ◌^◌, ◌/◌, ◌∙◌, ap, of_z, to_z, pos, rules, w64, FitsSigned}
use Rattle.std.proofs.lemmas.Int.{to_z-of_z}
use Rattle.lambda_values.specs.Wrap.{wrap}
use Rattle.lambda_values.specs.Operators.{low_six_bits}
use Rattle.lambda_values.proofs.Shifts.{shift_right_wraps}
use Rattle.lambda_values.proofs.operator.shift_right_unsigned.Goals as goal

pub returns : goal.returns
returns c =
    let k = c.shift_distance.result in
    let x = c.args.x in
    let r = c.cast_signed.result in
    let fits : FitsSigned w64 r = search rules in
    let small : of_z w64 x < 2 ^ 64 = search rules in
    let is : k ≡ low_six_bits c.args.count = search rules in
    let value : r ≡ to_z w64 (of_z w64 x / 2 ^ k) = search rules in
    to_z-of_z w64 r fits ∙ value ∙ shift_right_wraps x k small ∙ ap (λ k. wrap (pos (of_z w64 x / 2 ^ k))) is
