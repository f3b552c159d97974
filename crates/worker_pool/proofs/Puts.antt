-- A task that a queue of a worker took is in that queue.
use Rattle.std.proofs.Common.{◌≡◌, Some, Result, Ok, Err, IfOk, MatchResult}
use Rattle.deques.specs.Tasks.{IsAdded}
use Rattle.deques.specs.Handles.{owner_calls, pass_calls}
use Rattle.deques.specs.declared.handles.Owner.{Owner}
use Rattle.worker_pool.specs.declared.door.Door.{Door}
use Rattle.worker_pool.specs.declared.queues.Queues.{Queues}
use Rattle.worker_pool.specs.Queues.{IsPushed, IsPut}

module _ {T U : Type 0} where
  pub pushed : (old new : Queues T) (before after : Owner T) (task : T) (r : Result U T) → old.own ≡ Some before
      → new.own ≡ Some after → MatchResult r (λ _. IsAdded (owner_calls before) (owner_calls after) task)
      (λ back. (back ≡ task) × (owner_calls after ≡ owner_calls before)) → IfOk r (λ _. IsPushed old new task)
  pushed old new before after task (Ok x) was is h =
      record { before = before; after = after; was = was; is = is; added = h }
  pushed old new before after task (Err x) was is h = tt

  pub put : (old new : Queues T) (before after : Door T) (task : T) (r : Result U T) → old.door ≡ Some before
      → new.door ≡ Some after → MatchResult r (λ _. IsAdded (pass_calls before.pass) (pass_calls after.pass) task)
      (λ back. back ≡ task) → IfOk r (λ _. IsPut old new task)
  put old new before after task (Ok x) was is h =
      record { before = before; after = after; was = was; is = is; added = h }
  put old new before after task (Err x) was is h = tt
