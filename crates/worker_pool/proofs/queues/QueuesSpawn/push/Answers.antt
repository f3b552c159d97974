use Rattle.std.proofs.Common.{refl}
use Rattle.worker_pool.proofs.Puts.{pushed}
use Rattle.worker_pool.proofs.queues.QueuesSpawn.push.Goals as goal

pub returns-in-Some-clause-pushed : goal.returns-in-Some-clause-pushed
returns-in-Some-clause-pushed g c = pushed _ _ c.in-Some.own c.push-pushed.new.self _ c.push-pushed.result c.in-Some.is
    refl c.push-pushed.ensures.pushed
