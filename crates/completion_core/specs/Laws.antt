-- Design: what holds of every legal list of actions on a new graph.
use Rattle.std.specs.Prelude.{◌≡◌, ◌≢◌, ℕ, ◌<◌, List, ◌∷◌, ◌++◌, Option, Some, ◌⊎◌, All, AllPairs, slice_get}
use Rattle.completion_core.specs.declared.action.Action.{Action}
use Rattle.completion_core.specs.declared.action.Action.TheVariants.{Arm, Add, Arrive, Run, Settle}
use Rattle.completion_core.specs.Graph.{Arrival, Made, Held, Graph}
use Rattle.completion_core.specs.Legal.{after}
use Rattle.completion_core.specs.Runs.{after_all}

-- helper: an action that names, adds or makes arrivals at the node
abbrev pub IsAt : ℕ → Action → Type 0
IsAt i (Arm a node pending onward) = node ≡ i
IsAt i (Add a node d) = node ≡ i
IsAt i (Arrive a node) = node ≡ i
IsAt i action = ⊥

-- helper: an action that makes an arrival which the actor holds at the node
abbrev pub MakesAt : ℕ → ℕ → Action → Type 0
MakesAt a i (Arrive b node) = (b ≡ a) × (node ≡ i)
MakesAt a i (Settle b) = (b ≡ a) × (0 ≡ i)
MakesAt a i action = ⊥

-- no node runs twice
abbrev pub RunsOnce : List ℕ → Type 0
RunsOnce log = AllPairs (λ node later. node ≢ later) log

-- each node that runs isn't END, all arrivals that were ever owed to it are made by then, and no arrival is named,
-- added or made there later
abbrev pub RunsAfterAll : List Action → Graph → Type 0
RunsAfterAll actions g =
    (before later : List Action) (a node : ℕ) → actions ≡ before ++ Run a node ∷ later
    → (0 < node) × All (λ arrival. arrival ≡ Made) ((after_all before g).arrivals node)
    × All (λ action. ¬ IsAt node action) later

-- helper: the arrival of this name: its node, and its place there
abbrev pub arrival_at : Graph → ℕ → ℕ → Option Arrival
arrival_at g i place = slice_get (g.arrivals i) place

-- what is made stays made, and what becomes made was held by the actor who makes it
abbrev pub MadeOnce : List Action → Graph → Type 0
MadeOnce actions g =
    (before later : List Action) (action : Action) → actions ≡ before ++ action ∷ later → (i place : ℕ)
    → let old : Graph = after_all before g in
    let new : Graph = after action old in
    (arrival_at old i place ≡ Some Made → arrival_at new i place ≡ Some Made)
    × (arrival_at new i place ≡ Some Made
    → (arrival_at old i place ≡ Some Made)
    ⊎ ((a : ℕ) × (arrival_at old i place ≡ Some (Held a)) × MakesAt a i action))
