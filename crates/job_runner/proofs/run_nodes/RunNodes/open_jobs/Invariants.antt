use Rattle.std.proofs.Common.{◌≡◌, ◌+◌, ◌≤◌, length}
use Rattle.job_runner.proofs.run_nodes.RunNodes.open_jobs.Given as goal

abbrev pub invariant-loop-opened : goal.invariant-loop-opened
invariant-loop-opened g l = (l.unopened.jobs + l._opened ≡ l.count) × (length l.tasks.items ≤ l._opened)
