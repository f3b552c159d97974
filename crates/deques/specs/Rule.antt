-- Condition: the rule of a deque between any two steps, and what a pass learns from its step.
use Rattle.std.specs.Prelude.{◌≡◌, ◌≢◌, ℕ, ◌≤◌, List, [], ◌∷◌, length, map}
use mathlib.Core.Option.{some}
use lib.ListN.{get_elem?}
use Rattle.deques.specs.declared.calls.Call.{Call}
use Rattle.deques.specs.declared.calls.Call.TheVariants.{Added}
use Rattle.deques.specs.declared.calls.Calls.{Calls}
use Rattle.deques.specs.Tasks.{Entry, Step, Leads, calls_of, calls_by, NotOut, IsAdded, IsOut, WasEmpty, WasNearlyEmpty}

module _ {T : Type 0} where
  -- the view of a pass that has made these calls
  abbrev pub calls : List (Call T) → Calls T
  calls l = record { list = l }

  -- a pass that has made no call
  abbrev pub none_yet : Calls T
  none_yet = calls []

  -- a held task was added by the call that its number names, and no call handed it out
  abbrev pub IsIn : List (Step T) → Entry T → Type 0
  IsIn log e = ((by : ℕ) × (get_elem? log e.0 ≡ some (by, Added e.1))) × NotOut e.0 log

  abbrev pub AllIn : List (Step T) → List (Entry T) → Type 0
  AllIn log [] = Unit {0}
  AllIn log (e ∷ es) = IsIn log e × AllIn log es

  -- no entry has this number
  abbrev pub Lacks : ℕ → List (Entry T) → Type 0
  Lacks k [] = Unit {0}
  Lacks k (e ∷ es) = (e.0 ≢ k) × Lacks k es

  -- no two entries have one number
  abbrev pub Apart : List (Entry T) → Type 0
  Apart [] = Unit {0}
  Apart (e ∷ es) = Lacks e.0 es × Apart es

  -- the rule: one history, which leads to the tasks that are held, and in which each view is the calls of its pass
  pub record Kept (items : List T) (views : List (Calls T)) : Type 0 where
    pub log : List (Step T)
    pub held : List (Entry T)
    pub legal : Leads 0 [] (calls_of log) held
    pub holds : map (λ e. e.1) held ≡ items
    pub own : (by : ℕ) (v : Calls T) → get_elem? views by ≡ some v → calls_by by log ≡ v.list
    pub known : (by : ℕ) → length views ≤ by → calls_by by log ≡ []
    pub fresh : (k : ℕ) → length log ≤ k → NotOut k log
    pub inside : AllIn log held
    pub apart : Apart held

  -- what `push` and `put` say about the view before, the task and the view after
  abbrev pub Adds : Calls T → List T → Calls T → Type 0
  Adds v [] w = Unit {0}
  Adds v (x ∷ xs) w = IsAdded v.list w.list x

  -- what `pop`, `steal` and `take` say about them
  abbrev pub Hands : (ℕ → T → Call T) → Calls T → List T → Calls T → Type 0
  Hands how v [] w = Unit {0}
  Hands how v (x ∷ xs) w = IsOut how v.list w.list x

  -- what a `pop` or a `take` that finds nothing says about the view
  abbrev pub FoundEmpty : Calls T → Type 0
  FoundEmpty v = WasEmpty v.list

  -- what a `steal` that finds nothing says about the view
  abbrev pub FoundNearlyEmpty : Calls T → Type 0
  FoundNearlyEmpty v = WasNearlyEmpty v.list
