use Rattle.std.proofs.Common.{◌≡◌, ℕ}
use Rattle.completion_core.specs.Legal.{count}
use Rattle.job_runner.specs.Tasks.{all_waiting}
use Rattle.job_runner.proofs.arming.none_waiting.Given as goal

abbrev pub invariant-loop-job : goal.invariant-loop-job
invariant-loop-job l = (i : ℕ) → count i (all_waiting l.all.items) ≡ 0
