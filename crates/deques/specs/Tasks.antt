-- Design: the calls of a deque as one history, and what each does to the tasks that are held.
use Rattle.std.specs.Prelude.{◌≡◌, ◌≢◌, ℕ, suc, ◌≤◌, ◌==◌, List, [], ◌∷◌, ◌++◌, length, map, Option, Some, None}
use Rattle.std.specs.Prelude.{if◌then◌else◌}
use mathlib.Core.Option.{some}
use lib.ListN.{get_elem?}
use Rattle.deques.specs.declared.calls.Call.{Call}
use Rattle.deques.specs.declared.calls.Call.TheVariants.{Added, Newest, Oldest}

-- a held task with its number: how many calls changed the deque before it was added
abbrev pub Entry : Type 0 → Type 0
Entry T = ℕ × T

-- a call in a history, with the number of the pass that made it
abbrev pub Step : Type 0 → Type 0
Step T = ℕ × Call T

module _ {T : Type 0} where
  -- the tasks that are held after a call, the oldest first, if n calls came before it
  abbrev pub Does : ℕ → List (Entry T) → Call T → List (Entry T) → Type 0
  Does n held (Added x) left = left ≡ held ++ (n, x) ∷ []
  Does n held (Newest k x) left = held ≡ left ++ (k, x) ∷ []
  Does n held (Oldest k x) left = held ≡ (k, x) ∷ left

  -- the calls in their order lead from the first tasks to the last ones
  abbrev pub Leads : ℕ → List (Entry T) → List (Call T) → List (Entry T) → Type 0
  Leads n held [] left = held ≡ left
  Leads n held (c ∷ cs) left = (next : List (Entry T)) × Does n held c next × Leads (suc n) next cs left

  -- the calls of a history, without their passes
  abbrev pub calls_of : List (Step T) → List (Call T)
  calls_of log = map (λ s. s.1) log

  -- the calls of one pass
  abbrev pub calls_by : ℕ → List (Step T) → List (Call T)
  calls_by p [] = []
  calls_by p (s ∷ ss) = if s.0 == p then s.1 ∷ calls_by p ss else calls_by p ss

  -- the number of the task that a call hands out
  abbrev pub number_out : Call T → Option ℕ
  number_out (Added x) = None
  number_out (Newest k x) = Some k
  number_out (Oldest k x) = Some k

  -- no call hands out this task
  abbrev pub NotOut : ℕ → List (Step T) → Type 0
  NotOut k [] = Unit {0}
  NotOut k (s ∷ ss) = (number_out s.1 ≢ Some k) × NotOut k ss

  -- a pass whose calls were `mine` makes one more call, in one step; `before` are all calls before it, of any pass
  pub record IsStep (mine mine' : List (Call T)) (call : Call T) : Type 0 where
    pub by : ℕ
    pub before : List (Step T)
    pub held : List (Entry T)
    pub left : List (Entry T)
    pub legal : Leads 0 [] (calls_of before) held
    pub does : Does (length before) held call left
    pub own : calls_by by before ≡ mine
    pub grown : mine' ≡ mine ++ call ∷ []

  -- the task is added as the newest
  abbrev pub IsAdded : List (Call T) → List (Call T) → T → Type 0
  IsAdded mine mine' task = IsStep mine mine' (Added task)

  -- the task is handed out; one earlier call added it, and no earlier call handed it out
  pub record IsOut (how : ℕ → T → Call T) (mine mine' : List (Call T)) (task : T) : Type 0 where
    pub number : ℕ
    pub step : IsStep mine mine' (how number task)
    pub adder : ℕ
    pub added : get_elem? step.before number ≡ some (adder, Added task)
    pub first : NotOut number step.before

  -- it is the newest of the tasks that are held
  abbrev pub IsNewestOut : List (Call T) → List (Call T) → T → Type 0
  IsNewestOut = IsOut Newest

  -- it is the oldest of the tasks that are held
  abbrev pub IsOldestOut : List (Call T) → List (Call T) → T → Type 0
  IsOldestOut = IsOut Oldest

  -- a pass whose calls were `mine` met a moment at which no task was held
  pub record WasEmpty (mine : List (Call T)) : Type 0 where
    pub by : ℕ
    pub before : List (Step T)
    pub legal : Leads 0 [] (calls_of before) []
    pub own : calls_by by before ≡ mine

  -- a pass whose calls were `mine` met a moment at which one task was held at most
  pub record WasNearlyEmpty (mine : List (Call T)) : Type 0 where
    pub by : ℕ
    pub before : List (Step T)
    pub held : List (Entry T)
    pub legal : Leads 0 [] (calls_of before) held
    pub few : length held ≤ 1
    pub own : calls_by by before ≡ mine
