-- Condition: what the store of a graph keeps, and which graphs it may mean.
use Rattle.std.specs.Prelude.{◌≡◌, ℕ, ◌+◌, ◌<◌, ◌≤◌, ◌^◌, Bool, false, ◌&&◌, List, [], length, None, nat_eq, unwrap_or}
use Rattle.std.specs.Prelude.{slice_index_or}
use Rattle.std.specs.Map.{lookup}
use Rattle.completion_core.specs.declared.node_state.NodeState.{NodeState}
use Rattle.completion_core.specs.Graph.{Held, Kept, amount, left, Graph}
use Rattle.completion_core.specs.Legal.{count}

-- the states of END and of the nodes drawn, by number, and how many arrivals are held, by node and actor
pub record Book : Type 0 where
  pub nodes : ℕ
  pub states : List NodeState
  pub holdings : List ((ℕ × ℕ) × ℕ)

-- a node before it is drawn
abbrev pub blank : NodeState
blank = record { claimer = 0; armed = false; ran = false; owed = 0; left = 0; last = None; kept = [] }

abbrev pub state_of : List NodeState → ℕ → NodeState
state_of states i = slice_index_or states i blank

abbrev pub same_key : ℕ × ℕ → ℕ × ℕ → Bool
same_key p q = nat_eq p.0 q.0 && nat_eq p.1 q.1

-- how many arrivals at the node the entries say that the actor holds
abbrev pub held_in : List ((ℕ × ℕ) × ℕ) → ℕ → ℕ → ℕ
held_in entries actor node = unwrap_or (lookup (same_key (node, actor)) entries) 0

-- the book has the numbers of the graph
pub record StandsFor (b : Book) (g : Graph) : Type 0 where
  pub nodes : g.nodes ≡ b.nodes
  pub drawn : g.drawn + 1 ≡ length b.states
  pub within : g.drawn ≤ g.nodes
  pub claimer : (i : ℕ) → g.claimer i ≡ (state_of b.states i).claimer
  pub armed : (i : ℕ) → g.armed i ≡ (state_of b.states i).armed
  pub ran : (i : ℕ) → g.ran i ≡ (state_of b.states i).ran
  pub last : (i : ℕ) → g.last i ≡ (state_of b.states i).last
  pub owed : (i : ℕ) → length (g.arrivals i) ≡ (state_of b.states i).owed
  pub left : (i : ℕ) → left (g.arrivals i) ≡ (state_of b.states i).left
  pub held : (a i : ℕ) → amount (Held a) (g.arrivals i) ≡ held_in b.holdings a i
  pub kept : (k i : ℕ) → amount (Kept k) (g.arrivals i) ≡ count i (state_of b.states k).kept
  pub idle : (k i : ℕ) → g.armed k ≡ false → amount (Kept k) (g.arrivals i) ≡ 0
  pub bare : (i : ℕ) → 0 < i → g.armed i ≡ false → g.arrivals i ≡ []
  pub few : (i : ℕ) → 0 < i → length (g.arrivals i) ≤ 2 ^ 62
  pub fits : (i : ℕ) → length (g.arrivals i) < 2 ^ 64

-- the book means some graph
abbrev pub IsBook : Book → Type 0
IsBook b = (g : Graph) × StandsFor b g
