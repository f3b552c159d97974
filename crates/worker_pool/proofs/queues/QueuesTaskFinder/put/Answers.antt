use Rattle.std.proofs.Common.{refl, sym, ◌∙◌}
use Rattle.worker_pool.proofs.Puts.{put}
use Rattle.worker_pool.proofs.queues.QueuesTaskFinder.put.Goals as goal

pub returns-clause-put : goal.returns-clause-put
returns-clause-put g c = put _ _ c.in-Some.door c.put-door.result.0 _ c.put-door.result.1
    (sym c.take.ensures.value ∙ c.in-Some.is) refl c.put-door.ensures.put
