use Rattle.std.proofs.Common.{◌≡◌, ◌∙◌, ap, Ok, Result, ℤ, ℕ, of_z, rules, subst, to_z, w64}
use Rattle.lambda_values.specs.declared.fault.FaultKind.{FaultKind}
use Rattle.lambda_values.specs.Operators.{on}
use Rattle.lambda_values.specs.Term.{long_of, truth_of}
use Rattle.lambda_values.specs.Value.{long_value, truth_value}
use Rattle.batch_eval.specs.Batches.{counted_item, holds}
use Rattle.batch_eval.specs.Lanes.{Reaches, at, flagged}
use Rattle.batch_eval.proofs.Steps.{Reaches_image}
use Rattle.batch_eval.proofs.flagged.flag_counted.Goals as goal

pub returns : goal.returns
returns c =
    let r = c.args.range.now in
    let env = c.args.env.now in
    let set = c.in_ok-left.set in
    let left = long_of c.in_ok-left.left.now in
    let value : ℕ → Result ℤ FaultKind = λ k. long_value left (counted_item r.origin r.first k) env in
    let passes : (k : ℕ) → truth_value (truth_of c.args.test.now) (counted_item r.origin r.first k) env
    ≡ on (value k) (λ v. Ok (holds set v)) = λ k. c.in_ok-left.ensures.value (counted_item r.origin r.first k) in
    let same : to_z w64 (of_z w64 r.first) ≡ r.first = search rules in
    let reaches = subst (λ (z : ℤ). Reaches (λ k. long_value left (counted_item r.origin z k) env)
    (at c.eval_counted.new.out) r.count c.in_ok-reached.reached) same c.in_ok-reached.ensures in
    Reaches_image value _ _ _ _ _
    (λ k is. ap flagged (passes k ∙ ap (λ (v : Result ℤ FaultKind). on v (λ n. Ok (holds set n))) is))
    (λ k kind is. ap flagged (passes k ∙ ap (λ (v : Result ℤ FaultKind). on v (λ n. Ok (holds set n))) is))
    reaches
