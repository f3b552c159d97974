use Rattle.std.proofs.Common.{◌≡◌, ℤ, Bool, FitsSigned, Ok, Result, ap, w64, subst, ◌∙◌, rules}
use Rattle.std.proofs.lemmas.Int.{to_z-of_z}
use Rattle.lambda_values.specs.declared.fault.FaultKind.{FaultKind}
use Rattle.lambda_values.specs.Operators.{comparison_value, on}
use Rattle.lambda_values.specs.Term.{compare, long_of}
use Rattle.lambda_values.specs.Value.{long_value, truth_value}
use Rattle.batch_eval.specs.NumberTests.{seen_of}
use Rattle.batch_eval.proofs.step.with_number.Goals as goal

pub returns-clause-value : goal.returns-clause-value
returns-clause-value c = λ x.
    let env = c.args.env.now in
    let sign = c.args.comparison in
    let pair = c.args.pair.now in
    let number = c.in_ok-number.number in
    let seen = c.seen_by-seen.result in
    let fits : FitsSigned w64 number = search rules in
    let right : long_value (long_of pair.right) x env ≡ Ok number = search (rules, c.in_ok-number.ensures x) in
    let same : truth_value (compare sign (long_of pair.left) (long_of pair.right)) x env
    ≡ on {B = Bool} (long_value (long_of pair.left) x env) (λ v. Ok (comparison_value sign v number)) =
    ap (λ (r : Result ℤ FaultKind). on {B = Bool} (long_value (long_of pair.left) x env)
    (λ v. on {B = Bool} r (λ w. Ok (comparison_value sign v w)))) right in
    let second = subst (λ (n : ℤ). on {B = Bool} (long_value (long_of pair.left) x env)
    (λ v. Ok (comparison_value sign v n)) ≡ on {B = Bool} (long_value (long_of seen.0.now) x env)
    (λ v. Ok (comparison_value sign (seen_of seen.1 v) n))) (to_z-of_z w64 number fits)
    (c.seen_by-seen.ensures.value x) in
    let all = same ∙ second in
    rw (c.in_ok-new.ensures.seen, c.in_ok-new.ensures.comparison, c.in_ok-new.ensures.number) (search (rules, all))
