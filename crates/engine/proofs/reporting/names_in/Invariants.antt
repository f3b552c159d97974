use Rattle.std.proofs.Common.{◌≡◌}
use Rattle.job_plan.specs.Plans.{plan_names}
use Rattle.engine.proofs.reporting.names_in.Given as goal

abbrev pub invariant-loop-job : goal.invariant-loop-job
invariant-loop-job l = l.names.items ≡ plan_names l.yielded
