-- Condition: start nodes while they are armed, the last job's first, and what the seat of a task has.
use Rattle.std.specs.Prelude.{◌≡◌, ℕ, zero, suc, ◌+◌, ◌<◌, ◌≤◌, List, [], ◌∷◌, ◌++◌, length, Some, Vec}
use Rattle.std.specs.Global.{Global}
use Rattle.completion_core.specs.Graph.{copies}
use Rattle.completion_core.specs.Legal.{count}
use Rattle.pending_count.specs.declared.view.View.{View}
use Rattle.pending_count.specs.Views.{note_of, IsPlainAt}
use Rattle.completer_tree.specs.Roots.{Rooted}
use Rattle.job_runner.specs.declared.start.Start.{Start}
use Rattle.job_runner.specs.declared.start.Waiting.{Waiting}
use Rattle.job_runner.specs.Waits.{nodes_in}
use Rattle.atomic_table.specs.Seated.{TableId}
use Rattle.pending_count.specs.declared.place.Fits.{Ghosts}
use Rattle.pending_count.specs.declared.seat.Seat.{Seat}
use Rattle.pending_count.specs.Seats.{view_of, table_of}

-- of those that wait for any of several jobs
abbrev pub all_waiting : List (Vec Waiting Global) → List ℕ
all_waiting [] = []
all_waiting (ws ∷ more) = nodes_in ws.items ++ all_waiting more

abbrev pub start_nodes : List Start → List ℕ
start_nodes [] = []
start_nodes (s ∷ ss) = s.node ∷ start_nodes ss

-- the start node with this position, and what it keeps
abbrev pub node_at : List Start → ℕ → ℕ
node_at [] k = 0
node_at (s ∷ ss) zero = s.node
node_at (s ∷ ss) (suc k) = node_at ss k

abbrev pub kept_at : List Start → ℕ → List ℕ
kept_at [] k = []
kept_at (s ∷ ss) zero = s.onward.items
kept_at (s ∷ ss) (suc k) = kept_at ss k

-- the start nodes of the first jobs, the last one's first
abbrev pub nodes_below : (ℕ → ℕ) → ℕ → List ℕ
nodes_below start zero = []
nodes_below start (suc n) = start n ∷ nodes_below start n

module _ {T : Type 0} where
  -- The seat has noted what this start node keeps: arrivals at smaller nodes, one of them at END. A job that needs no
  -- start node has END itself, where its arrival stays.
  pub record KnowsStart (node : ℕ) (keeps : List ℕ) (v : View T) : Type 0 where
    pub lone : node ≡ 0 → keeps ≡ 0 ∷ []
    pub noted : 0 < node → note_of node v.noted ≡ Some keeps
    pub noted_sides : 0 < node → note_of node v.noted_sides ≡ Some []
    pub smaller : 0 < node → (i : ℕ) → 0 < count i keeps → i < node
    pub ends : 0 < count 0 keeps

  -- The seat has one arrival at each of these start nodes, those for the jobs that wait, and one at END for each job
  -- that has no start node yet. It has noted what these start nodes keep, and no place of a tree.
  pub record HasStarts (left : ℕ) (starts : List Start) (waiting : List ℕ) (v : View T) : Type 0 where
    pub held : (i : ℕ) → count i (start_nodes starts) + count i waiting + count i (copies left 0) ≤ count i v.held
    pub no_side : (k : ℕ) → count k v.sides ≡ 0
    pub rooted : Rooted v.places
    pub unplaced : length v.places ≡ 0
    pub known : (k : ℕ) → k < length starts → KnowsStart (node_at starts k) (kept_at starts k) v

  -- The seat has noted what the start nodes of the first jobs keep. It has no side of a pair at a node at which they
  -- keep an arrival.
  pub record KnowsStarts (jobs : ℕ) (start : ℕ → ℕ) (keeps : ℕ → List ℕ) (v : View T) : Type 0 where
    pub known : (job : ℕ) → job < jobs → KnowsStart (start job) (keeps job) v
    pub plain : (job i : ℕ) → job < jobs → 0 < count i (keeps job) → IsPlainAt i v
    pub rooted : Rooted v.places

  -- the top of a tree keeps what the start node of its job kept
  pub record KnowsTop (keeps : List ℕ) (root : ℕ) (v : View T) : Type 0 where
    pub noted : note_of root v.noted ≡ Some keeps
    pub noted_sides : note_of root v.noted_sides ≡ Some []

module _ {V K T : Type 0} {g : Ghosts K V T} where
  -- the seat has these arrivals, and no side of a pair there
  pub record HasKept (id : TableId) (jobs : ℕ) (start : ℕ → ℕ) (keeps : ℕ → List ℕ) (mine : List ℕ)
      (seat : Seat V K T g) : Type 0 where
    pub table : table_of seat ≡ id
    pub held : (i : ℕ) → count i mine ≤ count i (view_of seat).held
    pub plain_at : (i : ℕ) → 0 < count i mine → IsPlainAt i (view_of seat)
    pub knows : KnowsStarts jobs start keeps (view_of seat)

  -- the seat has an arrival at the start node of the job, and no side of a pair
  pub record CanArrive (id : TableId) (jobs : ℕ) (start : ℕ → ℕ) (keeps : ℕ → List ℕ) (job : ℕ)
      (seat : Seat V K T g) : Type 0 where
    pub table : table_of seat ≡ id
    pub held : 0 < count (start job) (view_of seat).held
    pub no_side : (k : ℕ) → count k (view_of seat).sides ≡ 0
    pub knows : KnowsStarts jobs start keeps (view_of seat)
