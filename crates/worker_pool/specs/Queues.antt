-- Condition: what becomes of a task that a worker pushes or puts.
use Rattle.std.specs.Prelude.{◌≡◌, List, Option, Some, None, map}
use Rattle.deques.specs.Tasks.{IsAdded}
use Rattle.deques.specs.Handles.{owner_calls, thief_calls, pass_calls}
use Rattle.deques.specs.declared.calls.Call.{Call}
use Rattle.deques.specs.declared.handles.Owner.{Owner}
use Rattle.worker_pool.specs.declared.door.Door.{Door}
use Rattle.worker_pool.specs.declared.queues.Queues.{Queues}

module _ {T : Type 0} where
  -- the worker's own deque holds the task as the newest
  pub record IsPushed (old new : Queues T) (task : T) : Type 0 where
    pub before : Owner T
    pub after : Owner T
    pub was : old.own ≡ Some before
    pub is : new.own ≡ Some after
    pub added : IsAdded (owner_calls before) (owner_calls after) task

  -- the inbox holds the task as the newest
  pub record IsPut (old new : Queues T) (task : T) : Type 0 where
    pub before : Door T
    pub after : Door T
    pub was : old.door ≡ Some before
    pub is : new.door ≡ Some after
    pub added : IsAdded (pass_calls before.pass) (pass_calls after.pass) task

  -- the calls of the deque, if there is one
  abbrev pub own_calls : Option (Owner T) → Option (List (Call T))
  own_calls None = None
  own_calls (Some o) = Some (owner_calls o)

  -- the calls of the pass, if there is one
  abbrev pub door_calls : Option (Door T) → Option (List (Call T))
  door_calls None = None
  door_calls (Some d) = Some (pass_calls d.pass)

  -- no call changed a deque or the inbox: no task was added, and none was taken
  pub record SameCalls (old new : Queues T) : Type 0 where
    pub own : own_calls new.own ≡ own_calls old.own
    pub others : map (λ t. thief_calls t) new.others.items ≡ map (λ t. thief_calls t) old.others.items
    pub door : door_calls new.door ≡ door_calls old.door
