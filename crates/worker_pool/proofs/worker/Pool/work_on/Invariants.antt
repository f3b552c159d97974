use Rattle.std.proofs.Common.{◌≡◌}
use Rattle.worker_pool.proofs.worker.Pool.work_on.Given as goal

abbrev pub invariant-loop : goal.invariant-loop
invariant-loop g l =
    (goal.iterator-loop g).can_next l.iterator' × (goal.iterator-loop g).is_finite l.iterator'
    × (g.W.Work.owner_of l.idle ≡ g.W.Work.owner_of l.initial.idle)
