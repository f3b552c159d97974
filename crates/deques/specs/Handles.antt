-- Design: the calls that a handle has made, and which deque it is of.
use Rattle.std.specs.Prelude.{◌≡◌, ℕ, List}
use Rattle.crossbeam_deque.specs.Handles.{taken, worker_deque, stealer_deque, worker_view, view}
use Rattle.crossbeam_deque.specs.Injected.{injector_view, IsInjectorPassOf}
use Rattle.deques.specs.declared.calls.Call.{Call}
use Rattle.deques.specs.declared.handles.Owner.{Owner}
use Rattle.deques.specs.declared.handles.Thief.{Thief}
use Rattle.deques.specs.declared.handles.Inbox.{Inbox}
use Rattle.deques.specs.declared.handles.Pass.{Pass}

module _ {T : Type 0} where
  -- the calls of a handle that changed its deque, in their order
  abbrev pub owner_calls : Owner T → List (Call T)
  owner_calls o = (worker_view o.worker).list

  abbrev pub thief_calls : Thief T → List (Call T)
  thief_calls t = (view t.pass).list

  -- how many tasks the thief has seen leave its deque as the oldest
  abbrev pub thief_seen : Thief T → ℕ
  thief_seen t = taken t.pass

  abbrev pub pass_calls : Pass T → List (Call T)
  pass_calls p = (injector_view p.pass).list

  -- the thief steals from the owner's deque
  abbrev pub IsThiefOf : Owner T → Thief T → Type 0
  IsThiefOf o t = stealer_deque t.stealer ≡ worker_deque o.worker

  -- both are the owner of one deque
  abbrev pub SameDeque : Owner T → Owner T → Type 0
  SameDeque old new = worker_deque new.worker ≡ worker_deque old.worker

  -- both steal from one deque
  abbrev pub SamePrey : Thief T → Thief T → Type 0
  SamePrey old new = stealer_deque new.stealer ≡ stealer_deque old.stealer

  -- the pass is of this inbox
  abbrev pub IsOf : Inbox T → Pass T → Type 0
  IsOf q p = IsInjectorPassOf q.injector p.pass
