use Rattle.std.proofs.Common.{◌≡◌, ◌/◌, ◌^◌, ◌∙◌, ap, ℕ, FitsSigned, Ok, rules, w64}
use Rattle.std.specs.Prelude.{unsigned_abs}
use Rattle.std.proofs.lemmas.Int.{to_z-of_z}
use Rattle.lambda_values.specs.Operators.{low_six_bits}
use Rattle.lambda_values.specs.Wrap.{wrap}
use Rattle.batch_eval.specs.Powers.{power, with_sign_of}
use Rattle.batch_eval.proofs.PowerLemmas.{quotient_by_power}
use Rattle.batch_eval.proofs.power.DivideByPowerKernel.apply.Goals as goal

pub returns : goal.returns
returns c =
    let x = c.args.x in
    let k = c.args.exponent in
    let r = c.signed_as.result in
    let m = c.unsigned_abs.result / 2 ^ c.distance.result in
    let fits : FitsSigned w64 r = search rules in
    let absolute : c.unsigned_abs.result ≡ unsigned_abs x = search rules in
    let far : c.distance.result ≡ low_six_bits k = search rules in
    let is : r ≡ wrap (with_sign_of x (c.unsigned_abs.result / 2 ^ c.distance.result)) = search rules in
    let size : c.unsigned_abs.result / 2 ^ c.distance.result ≡ unsigned_abs x / power k =
    ap (λ (a : ℕ). a / 2 ^ c.distance.result) absolute ∙ ap (λ (n : ℕ). unsigned_abs x / 2 ^ n) far in
    ap Ok (to_z-of_z w64 r fits) ∙ quotient_by_power x k r (c.unsigned_abs.result / 2 ^ c.distance.result) size is
