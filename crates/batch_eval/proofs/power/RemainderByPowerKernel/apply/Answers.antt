use Rattle.std.proofs.Common.{◌≡◌, ◌-◌, ◌%◌, ◌∙◌, ap, ℕ, FitsSigned, Ok, rules, w64}
use Rattle.std.specs.Prelude.{bit_and, unsigned_abs}
use Rattle.std.proofs.lemmas.Int.{to_z-of_z}
use Rattle.std.proofs.lemmas.Nat.{and_mask}
use Rattle.lambda_values.specs.Operators.{low_six_bits}
use Rattle.lambda_values.specs.Wrap.{wrap}
use Rattle.batch_eval.specs.Powers.{power, with_sign_of}
use Rattle.batch_eval.proofs.PowerLemmas.{rest_by_power}
use Rattle.batch_eval.proofs.power.RemainderByPowerKernel.apply.Goals as goal

pub returns : goal.returns
returns c =
    let x = c.args.x in
    let k = c.args.exponent in
    let r = c.signed_as.result in
    let fits : FitsSigned w64 r = search rules in
    let absolute : c.unsigned_abs.result ≡ unsigned_abs x = search rules in
    let masked : c.mask.result ≡ power k - 1 = search rules in
    let is : r ≡ wrap (with_sign_of x (bit_and c.unsigned_abs.result c.mask.result)) = search rules in
    let size : bit_and c.unsigned_abs.result c.mask.result ≡ unsigned_abs x % power k =
    ap (λ (a : ℕ). bit_and a c.mask.result) absolute ∙ ap (λ (m : ℕ). bit_and (unsigned_abs x) m) masked
    ∙ and_mask (unsigned_abs x) (low_six_bits k) in
    ap Ok (to_z-of_z w64 r fits) ∙ rest_by_power x k r (bit_and c.unsigned_abs.result c.mask.result) size is
