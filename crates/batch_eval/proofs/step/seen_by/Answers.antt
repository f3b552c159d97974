use Rattle.std.proofs.Common.{◌≡◌, ℤ, pos, Bool, FitsSigned, Result, Ok, w64, ap, subst, sym, ◌∙◌, rules}
use Rattle.std.proofs.lemmas.Int.{to_z-of_z}
use Rattle.lambda_values.specs.declared.fault.FaultKind.{FaultKind}
use Rattle.lambda_values.specs.Operators.{comparison_value, on}
use Rattle.lambda_values.specs.Term.{long_of}
use Rattle.lambda_values.specs.Value.{long_value}
use Rattle.batch_eval.specs.NumberTests.{rest_of}
use Rattle.batch_eval.specs.Powers.{power}
use Rattle.batch_eval.proofs.RestLemmas.{zero_seen}
use Rattle.batch_eval.proofs.step.seen_by.Goals as goal

pub returns-in-Some-clause-value : goal.returns-in-Some-clause-value
returns-in-Some-clause-value c = λ x.
    let k = c.in-Some.exponent in
    let zero : c.args.number ≡ pos 0 = search rules in
    let whole = long_value (long_of c.args.expr.now) x c.args.env.now in
    let dividend = long_value (long_of c.in-Some.dividend.now) x c.args.env.now in
    let f : ℤ → Bool = λ v. comparison_value c.args.comparison v (pos 0) in
    let same : on {B = Bool} whole (λ v. Ok (f v)) ≡ on {B = Bool} dividend (λ v. Ok (f (rest_of v (power k)))) =
    ap (λ (r : Result ℤ FaultKind). on {B = Bool} r (λ v. Ok (f v))) (c.in-Some.ensures.value x)
    ∙ zero_seen f k (c.tells_zero.ensures c.if-tells_zero.true) dividend in
    let fits : FitsSigned w64 k = search rules in
    subst (λ (e : ℤ). on {B = Bool} whole (λ v. Ok (comparison_value c.args.comparison v c.args.number))
    ≡ on {B = Bool} dividend (λ v. Ok (comparison_value c.args.comparison (rest_of v (power e)) c.args.number)))
    (sym (to_z-of_z w64 k fits))
    (subst (λ (n : ℤ). on {B = Bool} whole (λ v. Ok (comparison_value c.args.comparison v n))
    ≡ on {B = Bool} dividend (λ v. Ok (comparison_value c.args.comparison (rest_of v (power k)) n))) (sym zero) same)
