-- Condition: what the callers in the tests know of a tree of nodes.
use Rattle.std.specs.Prelude.{◌≡◌, ℕ, ◌+◌, ◌-◌, ◌*◌, ◌/◌, ◌%◌, ◌<◌, ◌≤◌, [], ◌∷◌, Some, nat_lt, if◌then◌else◌}
use Rattle.completion_core.specs.Legal.{count}
use Rattle.pending_count.specs.declared.view.View.{View}
use Rattle.pending_count.specs.declared.place.Fits.{Ghosts}
use Rattle.pending_count.specs.declared.seat.Seat.{Seat}
use Rattle.pending_count.specs.declared.counts.Counts.{Counts}
use Rattle.pending_count.specs.Views.{note_of}
use Rattle.pending_count.specs.Seats.{view_of, IsSeatOf, nodes_of}

-- the node at which a node keeps an arrival: END for the first node, one of the smaller nodes for each other
abbrev pub parent : ℕ → ℕ
parent node = if nat_lt node 2 then 0 else node * 2654435761 / 65536 % (node - 1) + 1

module _ {T : Type 0} where
  -- the nodes up to this one were armed, each to keep the arrival at its parent, and no side of a pair is held
  pub record Knows (upto : ℕ) (v : View T) : Type 0 where
    pub notes : (i : ℕ) → 0 < i → i ≤ upto → note_of i v.noted ≡ Some (parent i ∷ [])
    pub side_notes : (i : ℕ) → 0 < i → i ≤ upto → note_of i v.noted_sides ≡ Some []
    pub plain : (k : ℕ) → count k v.sides ≡ 0

  -- at each node from the first number to the one before the second, an arrival is held
  abbrev pub Has : ℕ → ℕ → View T → Type 0
  Has from to v = (i : ℕ) → from ≤ i → i < to → 0 < count i v.held

module _ {V K T : Type 0} {g : Ghosts K V T} where
  -- a seat of these counts that knows the whole tree
  abbrev pub IsInTree : Counts V K T → Seat V K T g → Type 0
  IsInTree counts seat = IsSeatOf counts seat × Knows (nodes_of counts) (view_of seat)

  -- it can climb from each of these nodes
  abbrev pub CanClimb : Counts V K T → ℕ → ℕ → Seat V K T g → Type 0
  CanClimb counts from to seat = IsInTree counts seat × Has from to (view_of seat)
