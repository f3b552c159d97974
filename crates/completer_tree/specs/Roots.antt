-- Condition: what a seat notes of the top of a tree, and of what the top keeps.
use Rattle.std.specs.Prelude.{◌≡◌, ◌≢◌, ℕ, ◌+◌, ◌<◌, ◌≤◌, List, [], ◌∷◌, Option, Some, None}
use Rattle.completion_core.specs.Legal.{count}
use Rattle.pending_count.specs.declared.view.View.{View}
use Rattle.pending_count.specs.declared.place.Place.{Place}
use Rattle.pending_count.specs.Views.{left_slot, right_slot, note_of, sides_of}
use Rattle.pending_count.specs.Pairs.{slot_of}

-- helper: places as they are noted
abbrev pub Notes : Type 0 → Type 0
Notes T = List (ℕ × Option (ℕ × (ℕ × (ℕ × T))))

module _ {T : Type 0} where
  -- from this node upwards the notes lead to this top
  pub record Leads (places : Notes T) (node root : ℕ) : Type 0 where
    pub known : note_of node places ≢ None
    pub top : note_of node places ≡ Some None → node ≡ root
    pub under : (q : ℕ × (ℕ × (ℕ × T))) → note_of node places ≡ Some (Some q) → q.1.1.0 ≡ root
    pub low : root ≤ node

  -- they do so from the parent of each node that was noted
  abbrev pub Rooted : Notes T → Type 0
  Rooted places = (node : ℕ) (q : ℕ × (ℕ × (ℕ × T))) → note_of node places ≡ Some (Some q) → Leads places q.0 q.1.1.0

  -- the parent, which for a top is 0, and the top
  abbrev pub parent_of : Option (Place T) → ℕ
  parent_of None = 0
  parent_of (Some p) = p.node

  abbrev pub root_of : Option (Place T) → ℕ → ℕ
  root_of None node = node
  root_of (Some p) node = p.root

  -- what the seat noted of the top, once a node was armed that keeps this
  abbrev pub root_note : Option (Place T) → List ℕ → List (ℕ × List ℕ) → Option (List ℕ)
  root_note None onward noted = Some onward
  root_note (Some p) onward noted = note_of p.root noted

  -- what a seat has noted of the top of the tree that was forked at this place, which is now at the other place
  pub record KnowsTop (at : Option (Place T)) (onward : List ℕ) (p : Place T) (v w : View T) : Type 0 where
    pub root : p.root ≡ root_of at p.node
    pub inner : 0 < p.node
    pub above : (i : ℕ) (given : List ℕ) → note_of i v.noted ≡ Some given → i < p.node
    pub noted : (given : List ℕ) → root_note at onward v.noted ≡ Some given → note_of p.root w.noted ≡ Some given
    pub noted_sides : (given : List ℕ) → root_note at (sides_of onward v.sides) v.noted_sides ≡ Some given
        → note_of p.root w.noted_sides ≡ Some given
    pub only_own : (k : ℕ) → count k w.sides ≤ count k (left_slot p.node ∷ right_slot p.node ∷ []) + count k v.sides
    pub still_noted : (i : ℕ) (given : List ℕ) → note_of i v.noted ≡ Some given → note_of i w.noted ≡ Some given
    pub still_noted_sides : (i : ℕ) (given : List ℕ) → note_of i v.noted_sides ≡ Some given
        → note_of i w.noted_sides ≡ Some given

  -- The result of the tree was given here: the seat has what the top kept instead of the arrival at this place, and it
  -- notes what it noted.
  pub record HasKept (p : Place T) (v w : View T) : Type 0 where
    pub held : (given : List ℕ) → note_of p.root v.noted ≡ Some given → (j : ℕ)
        → count j w.held + count j (p.node ∷ []) ≡ count j given + count j v.held
    pub sides : (given : List ℕ) → note_of p.root v.noted_sides ≡ Some given → (j : ℕ)
        → count j w.sides + count j (slot_of p.node p.side ∷ []) ≡ count j given + count j v.sides
    pub noted : w.noted ≡ v.noted
    pub noted_sides : w.noted_sides ≡ v.noted_sides
    pub places : w.places ≡ v.places
