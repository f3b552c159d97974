use Rattle.std.proofs.Common.{◌≡◌, ℤ, of_z, rules, subst, to_z, w64}
use Rattle.batch_eval.specs.Batches.{holds}
use Rattle.batch_eval.specs.Lanes.{at, step_value}
use Rattle.batch_eval.specs.declared.operands.Step.TheVariants as step
use Rattle.batch_eval.proofs.operands.steps_pass.Goals as goal

pub returns-in-ShiftRightUnsigned : goal.returns-in-ShiftRightUnsigned
returns-in-ShiftRightUnsigned c =
    let by : to_z w64 (of_z w64 c.in-ShiftRightUnsigned.by) ≡ c.in-ShiftRightUnsigned.by = search rules in
    rw (c.in-ShiftRightUnsigned.is) (λ yes k below. subst
    (λ (z : ℤ). holds c.args.test (step_value (step.ShiftRightUnsigned z) (at c.args.xs.now k)) ≡ c.args.wanted) by
    (c.lanes_pass-in-ShiftRightUnsigned.ensures yes k below))
