-- Design: when words and the views of seats show a graph of completers.
-- Word i belongs to node i, word 0 to END, and the claim word comes after them. An actor is a seat, by its number.
use Rattle.std.specs.Prelude.{◌≡◌, ℕ, ◌+◌, ◌<◌, ◌≤◌, min, Bool, true, false, List, [], length, slice_index, Some}
use Rattle.atomic_table.specs.Table.{State}
use Rattle.completion_core.specs.Graph.{Arrival, Held, Kept, total, amount, left, Graph}
use Rattle.completion_core.specs.Legal.{count}
use Rattle.pending_count.specs.declared.view.View.{View}
use Rattle.pending_count.specs.Views.{whole_credit, names, keeps_at, note_of, view_at}

-- helper: 1 for true
abbrev pub one_if : Bool → ℕ
one_if true = 1
one_if false = 0

-- a node that isn't armed has no arrivals, one that is armed has some left exactly until it runs
pub record Running (drawn : ℕ) (arrivals : ℕ → List Arrival) (armed ran : ℕ → Bool) : Type 0 where
  pub below : (i : ℕ) → armed i ≡ true → (0 < i) × (i ≤ drawn)
  pub bare : (i : ℕ) → 0 < i → armed i ≡ false → arrivals i ≡ []
  pub idle : (i : ℕ) → armed i ≡ false → ran i ≡ false
  pub waits : (i : ℕ) → armed i ≡ true → ran i ≡ false → 0 < left (arrivals i)
  pub over : (i : ℕ) → ran i ≡ true → left (arrivals i) ≡ 0

module _ {T : Type 0} where
  -- how often j stands in what all records say that the node i was given to keep
  abbrev pub kept_at : ℕ → ℕ → List (View T) → ℕ
  kept_at i j views = total (λ v. total (keeps_at i j) v.armed) views

  -- how many arrivals all seats have added
  abbrev pub additions : List (View T) → ℕ
  additions views = total (λ v. v.added) views

  -- the words are the numbers of arrivals owed and not made, the claim word counts the claims; claims, credits and
  -- additions together are the whole credit
  pub record Counting (nodes : ℕ) (words : List ℕ) (views : List (View T)) (drawn : ℕ)
      (arrivals : ℕ → List Arrival) : Type 0 where
    pub size : length words ≡ nodes + 2
    pub draws : drawn ≡ min (slice_index words (nodes + 1)) nodes
    pub paid : slice_index words (nodes + 1) + total (λ v. v.credit) views + additions views ≡ whole_credit
    pub few : (i : ℕ) → 0 < i → left (arrivals i) ≤ 4294967296 + additions views
    pub word : (i : ℕ) → i ≤ nodes → slice_index words i ≡ left (arrivals i)

  -- a view has the arrivals that its actor holds
  abbrev pub Holding : List (View T) → (ℕ → List Arrival) → Type 0
  Holding views arrivals = (a i : ℕ) → count i (view_at views a).held ≡ amount (Held a) (arrivals i)

  -- a view has the nodes that its actor claimed and that aren't armed, each once
  pub record Claiming (views : List (View T)) (drawn : ℕ) (claimer : ℕ → ℕ) (armed : ℕ → Bool) : Type 0 where
    pub drew : (a i : ℕ) → 0 < count i (view_at views a).claims
        → (0 < i) × (i ≤ drawn) × (claimer i ≡ a) × (armed i ≡ false)
    pub once : (a i : ℕ) → 0 < i → i ≤ drawn → claimer i ≡ a → armed i ≡ false → count i (view_at views a).claims ≡ 1

  -- the records name the armed nodes, each once, and what those that haven't run keep
  pub record Keeping (views : List (View T)) (arrivals : ℕ → List Arrival) (armed ran : ℕ → Bool) : Type 0 where
    pub records : (i : ℕ) → total (λ v. total (names i) v.armed) views ≡ one_if (armed i)
    pub keeping : (i j : ℕ) → ran i ≡ false → amount (Kept i) (arrivals j) ≡ kept_at i j views
    pub spent : (i j : ℕ) → ran i ≡ true → amount (Kept i) (arrivals j) ≡ 0

  -- what was noted is so: what a node was given, the least that END's word has shown, and that no node was left to draw
  pub record Noting (nodes : ℕ) (words : List ℕ) (views : List (View T)) (armed : ℕ → Bool) : Type 0 where
    pub noted : (a i : ℕ) (kept : List ℕ) → note_of i (view_at views a).noted ≡ Some kept
        → (armed i ≡ true) × ((j : ℕ) → count j kept ≡ kept_at i j views)
    pub seen : (a n : ℕ) → (view_at views a).seen ≡ Some n → slice_index words 0 ≤ n
    pub exhausted : (a : ℕ) → (view_at views a).none_left ≡ true → nodes ≤ slice_index words (nodes + 1)

  -- words and views show the graph
  pub record Shows {S : Type 0} (nodes : ℕ) (s : State S (View T)) (g : Graph) : Type 0 where
    pub all_nodes : g.nodes ≡ nodes
    pub counting : Counting nodes s.words s.views g.drawn g.arrivals
    pub holding : Holding s.views g.arrivals
    pub claiming : Claiming s.views g.drawn g.claimer g.armed
    pub running : Running g.drawn g.arrivals g.armed g.ran
    pub keeping : Keeping s.views g.arrivals g.armed g.ran
    pub noting : Noting nodes s.words s.views g.armed

  -- the words and the views show some graph
  abbrev pub IsShown : {S : Type 0} → ℕ → State S (View T) → Type 0
  IsShown nodes s = (g : Graph) × Shows nodes s g
