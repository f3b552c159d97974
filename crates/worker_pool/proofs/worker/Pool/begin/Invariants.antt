use Rattle.std.proofs.Common.{◌≡◌}
use Rattle.worker_pool.proofs.worker.Pool.begin.Given as goal

abbrev pub invariant-loop-task : goal.invariant-loop-task
invariant-loop-task g l = g.W.Work.owner_of l.idle ≡ g.W.Work.owner_of l.initial.idle
