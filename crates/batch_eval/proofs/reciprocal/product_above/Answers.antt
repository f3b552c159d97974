use Rattle.std.proofs.Common.{◌+◌, ◌*◌, ◌/◌, ◌%◌, ◌^◌, ◌∙◌, ap, arith, refl}
use Rattle.std.proofs.lemmas.Nat.{div-add-mod'}
use Rattle.batch_eval.proofs.ReciprocalLemmas.{halves_above}
use Rattle.batch_eval.proofs.reciprocal.product_above.Goals as goal

pub returns : goal.returns
returns c =
    let n = c.args.n in
    let low = c.from-low.result in
    let high = c.from-high.result in
    let b = 2 ^ 32 in
    let across = n / b * low + n % b * low / b in
    halves_above b (n / b) (n % b) high low across (omega arith) refl
    ∙ ap (λ k. k * (high * b + low) / (b * b)) (div-add-mod' n b)
    ∙ ap (λ k. n * (k * b + low) / (b * b)) c.from-high.ensures
    ∙ ap (λ k. n * (c.args.high * b + k) / (b * b)) c.from-low.ensures
