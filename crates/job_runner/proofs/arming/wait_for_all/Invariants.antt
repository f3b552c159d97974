use Rattle.std.proofs.Common.{◌≤◌, ◌+◌, ℕ}
use Rattle.completion_core.specs.Graph.{copies}
use Rattle.completion_core.specs.Legal.{count}
use Rattle.job_runner.specs.Tasks.{all_waiting}
use Rattle.job_runner.proofs.arming.wait_for_all.Given as goal

abbrev pub invariant-loop-named : goal.invariant-loop-named
invariant-loop-named l = (i : ℕ) → count i (all_waiting l.all.items) ≤ count i (copies l.named-index l.job.node)
    + count i (all_waiting l.fn.all.items)
