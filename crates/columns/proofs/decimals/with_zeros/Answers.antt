use Rattle.std.proofs.Common.{◌≡◌, ◌≤◌, ◌*◌, ◌^◌, ◌∙◌, FitsSigned, ap, if◌then◌else◌, neg_ℤ, pos, rules, sym, w64}
use Rattle.std.proofs.lemmas.Int.{to_z-of_z}
use Rattle.std.specs.Prelude.{int_lt, unsigned_abs}
use Rattle.columns.specs.Number.{in_range}
use Rattle.columns.proofs.SpelledDecimals.{zeros_none, zeros_some}
use Rattle.columns.proofs.decimals.with_zeros.Goals as goal

pub returns-in_err-size : goal.returns-in_err-size
returns-in_err-size c =
    let fits : FitsSigned w64 c.args.number = search rules in
    let large : 10 ^ 19 ≤ c.unsigned_abs.result * 10 ^ c.args.places =
    rw c.from.ensures at c.in_err-size.ensures.none in
    c.from_residual.ensures ∙ sym (zeros_none c.args.places c.args.number c.unsigned_abs.result fits
    (c.unsigned_abs.ensures.value ∙ ap unsigned_abs (to_z-of_z w64 c.args.number fits)) large)

pub returns : goal.returns
returns c =
    let fits : FitsSigned w64 c.args.number = search rules in
    let value : c.in_ok-size.size ≡ c.unsigned_abs.result * 10 ^ c.args.places =
    rw c.from.ensures at c.in_ok-size.ensures.value in
    c.with_sign.ensures
    ∙ ap (λ k. in_range (if int_lt k (pos 0) then neg_ℤ (pos c.in_ok-size.size) else pos c.in_ok-size.size))
    (to_z-of_z w64 c.args.number fits)
    ∙ zeros_some c.args.places c.args.number c.unsigned_abs.result c.in_ok-size.size fits
    (c.unsigned_abs.ensures.value ∙ ap unsigned_abs (to_z-of_z w64 c.args.number fits)) value
