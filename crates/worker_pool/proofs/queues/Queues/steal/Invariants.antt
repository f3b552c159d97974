use Rattle.std.proofs.Common.{◌≡◌, map}
use Rattle.deques.specs.Handles.{thief_calls}
use Rattle.worker_pool.proofs.queues.Queues.steal.Given as goal

-- no thief has taken a task yet
abbrev pub invariant-loop-thief : goal.invariant-loop-thief
invariant-loop-thief g l = map (λ t. thief_calls t) l.thief-items ≡ map (λ t. thief_calls t) l.fn.self.others.items
