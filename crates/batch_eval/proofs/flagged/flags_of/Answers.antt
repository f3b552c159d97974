use Rattle.std.proofs.Common.{◌≡◌, ◌∙◌, ap, refl, sym, Bool, List, Ok, Result, ℤ, ℕ}
use Rattle.lambda_values.specs.declared.fault.FaultKind.{FaultKind}
use Rattle.lambda_values.specs.Operators.{on}
use Rattle.lambda_values.specs.Term.{long_of, truth_of}
use Rattle.lambda_values.specs.Value.{long_value, truth_value}
use Rattle.batch_eval.specs.declared.number_test.NumberTest.{NumberTest}
use Rattle.batch_eval.specs.declared.reached.Reached.{Reached}
use Rattle.batch_eval.specs.Batches.{holds}
use Rattle.batch_eval.specs.Choices.{lane_item}
use Rattle.batch_eval.specs.Lanes.{Reaches, at, flag_of, flagged, is_set}
use Rattle.batch_eval.proofs.FlagLemmas.{flag_is, flagged_between}
use Rattle.batch_eval.proofs.Steps.{Reaches_image}
use Rattle.batch_eval.proofs.flagged.flags_of.Goals as goal

-- flags that were written, and the test whether one is set
written : (truth : ℕ → Result Bool FaultKind) (value : ℕ → Result ℤ FaultKind) (flags : List ℤ) (live : ℕ)
    (reached : Reached) (set : NumberTest) → ((k : ℕ) → flagged (truth k) ≡ value k)
    → ((z : ℤ) → holds set z ≡ is_set z) → Reaches value (at flags) live reached
    → Reaches (λ k. flagged (truth k)) (λ k. flag_of (holds set (at flags k))) live reached
written truth value flags live reached set same is reaches =
    Reaches_image value (λ k. flagged (truth k)) (at flags) (λ k. flag_of (holds set (at flags k))) live reached
    (λ k e. same k ∙ e ∙ ap Ok (sym (ap flag_of (is (at flags k)) ∙ flag_is (truth k) (at flags k) (same k ∙ e))))
    (λ k kind e. same k ∙ e)
    reaches

pub returns-in_default-clause-reached : goal.returns-in_default-clause-reached
returns-in_default-clause-reached c =
    let truth : ℕ → Result Bool FaultKind =
    λ k. truth_value (truth_of c.args.test.now) (lane_item c.args.inputs k) c.args.inputs.env.now in
    written truth (λ k. flagged (truth k)) c.eval_bool-reached.new.out c.args.inputs.live c.eval_bool-reached.result
    c.is_set.result (λ k. refl) c.is_set.ensures c.eval_bool-reached.ensures

pub returns-in-Some-with_number-clause-reached : goal.returns-in-Some-with_number-clause-reached
returns-in-Some-with_number-clause-reached c =
    let env = c.args.inputs.env.now in
    let set = c.in-Some-with_number.set in
    let value : ℕ → Result ℤ FaultKind =
    λ k. long_value (long_of c.in-Some-with_number.left.now) (lane_item c.args.inputs k) env in
    let passes : (k : ℕ) → truth_value (truth_of c.args.test.now) (lane_item c.args.inputs k) env
    ≡ on (value k) (λ v. Ok (holds set v)) = λ k. c.in-Some.ensures.value (lane_item c.args.inputs k) env
    ∙ c.in-Some-with_number.ensures.value (lane_item c.args.inputs k) in
    Reaches_image value _ _ _ _ _
    (λ k is. ap flagged (passes k ∙ ap (λ (r : Result ℤ FaultKind). on r (λ v. Ok (holds set v)))
    (is ∙ ap Ok (sym (c.register.ensures.numbers k)))))
    (λ k kind is. ap flagged (passes k ∙ ap (λ (r : Result ℤ FaultKind). on r (λ v. Ok (holds set v))) is))
    c.eval_held.ensures.reached

pub returns-clause-reached : goal.returns-clause-reached
returns-clause-reached c =
    let env = c.args.inputs.env.now in
    let pair = c.in-Some.pair.now in
    written (λ k. truth_value (truth_of c.args.test.now) (lane_item c.args.inputs k) env) _
    c.eval_between-reached.new.out c.args.inputs.live c.eval_between-reached.result c.is_set-2.result
    (λ k. ap flagged (c.in-Some.ensures.value (lane_item c.args.inputs k) env) ∙ flagged_between c.in-Some.comparison
    (long_value (long_of pair.left) (lane_item c.args.inputs k) env)
    (long_value (long_of pair.right) (lane_item c.args.inputs k) env))
    c.is_set-2.ensures c.eval_between-reached.ensures
