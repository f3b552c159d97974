-- Condition: what each step of the table says to its caller.
use Rattle.std.specs.Prelude.{◌≡◌, ℕ, List}
use Rattle.atomic_table.specs.Table.{Me, Step}
use Rattle.pending_count.specs.declared.view.View.{View}
use Rattle.std.specs.Prelude.{◌∷◌, Bool, not, Option, Some, None}
use Rattle.atomic_table.specs.Table.{rest}
use Rattle.pending_count.specs.declared.place.Side.{Side}
use Rattle.pending_count.specs.declared.place.Place.{Place}
use Rattle.pending_count.specs.declared.place.Slot.{Slot}
use Rattle.pending_count.specs.declared.place.Slot.TheVariants.{Value, Kept as KeptValue}
use Rattle.pending_count.specs.Views.{kept_slot, note_of, taken_view, closed_view}
use Rattle.pending_count.specs.Pairs.{side_slot, side_of, tags_after}
use Rattle.pending_count.specs.PairSteps.{IsPaired, IsKept, IsHanded}
use Rattle.pending_count.specs.Steps.{IsClaimed, IsArmed, IsArrived, IsAdded, IsSettled, IsEndSeen, IsTaken}

module _ {S T : Type 0} (nodes actor : ℕ) where
  -- a step that moves no slot
  abbrev pub claimed : Step S → Me S (View T) → ℕ → Me S (View T) → Type 0
  claimed st m n m' = (m'.1 ≡ m.1) × (m'.0.taken ≡ m.0.taken) × IsClaimed S nodes actor m.0 n m'.0

  abbrev pub armed : ℕ → List ℕ → Step S → Me S (View T) → ℕ → Me S (View T) → Type 0
  armed pending onward st m n m' = (m'.1 ≡ m.1) × (m'.0.taken ≡ m.0.taken)
      × IsArmed S nodes actor st.word pending onward m.0 m'.0

  abbrev pub arrived : Step S → Me S (View T) → ℕ → Me S (View T) → Type 0
  arrived st m n m' = (m'.1 ≡ m.1) × (m'.0.taken ≡ m.0.taken) × IsArrived S nodes actor st.word m.0 n m'.0

  abbrev pub added : Step S → Me S (View T) → ℕ → Me S (View T) → Type 0
  added st m n m' = (m'.1 ≡ m.1) × (m'.0.taken ≡ m.0.taken) × IsAdded S nodes actor st.word st.first m.0 m'.0

  abbrev pub settled : Step S → Me S (View T) → ℕ → Me S (View T) → Type 0
  settled st m n m' = (m'.1 ≡ m.1) × (m'.0.taken ≡ m.0.taken) × IsSettled S nodes actor m.0 m'.0

  abbrev pub looked : Step S → Me S (View T) → ℕ → Me S (View T) → Type 0
  looked st m n m' = (m'.1 ≡ m.1) × (m'.0.taken ≡ m.0.taken) × IsEndSeen S nodes actor m.0 n m'.0

-- a slot that was empty is out
abbrev pub took : {S T : Type 0} → ℕ → ℕ → ℕ → Step (Option S) → Me (Option S) (View T) → ℕ → Me (Option S) (View T)
    → Type 0
took {S = S} nodes actor slot st m n m' =
    IsTaken (Option S) nodes actor st.word slot m.0 m'.0 × (m'.1 ≡ (slot, None) ∷ m.1)

module _ {V K T : Type 0} (fits : T → Side → V → Type 0) (tag_of : K → T) (place_of : K → Option (Place T))
    (nodes actor : ℕ) where
  -- the slot of the kept value went home; v is the view before the slot was taken
  abbrev pub paired : List ℕ → Step (Option (Slot V K)) → Me (Option (Slot V K)) (View T) → ℕ
      → Me (Option (Slot V K)) (View T) → Type 0
  paired onward st m n m' = (v : View T) (k : K) → m.0 ≡ taken_view (kept_slot st.word) v
      → m.1 ≡ (kept_slot st.word, Some (KeptValue k)) ∷ rest m.1
      → IsPaired fits tag_of place_of nodes actor st.word onward k v m'.0

  -- where it was the last, the kept value and the other side's came to the seat, in front of its own
  pub record Closed (node : ℕ) (b : Bool) (v : View T) (m m' : Me (Option (Slot V K)) (View T)) : Type 0 where
    pub value : V
    pub kept_value : K
    pub kept : List ℕ
    pub kept_sides : List ℕ
    pub view : m'.0 ≡ closed_view node (side_slot node b) kept kept_sides (tags_after (place_of kept_value) v.tags) v
    pub slots : m'.1 ≡ (kept_slot node, Some (KeptValue kept_value)) ∷ (side_slot node (not b), Some (Value value))
        ∷ m.1
    pub fit : (tag : T) → note_of node v.tags ≡ Some tag
        → fits tag (side_of (not b)) value × IsKept fits tag_of place_of node tag v kept_value kept kept_sides

  abbrev pub handed : Bool → Step (Option (Slot V K)) → Me (Option (Slot V K)) (View T) → ℕ
      → Me (Option (Slot V K)) (View T) → Type 0
  handed b st m n m' = (v : View T) → m.0 ≡ taken_view (side_slot st.word b) v
      → IsHanded fits tag_of place_of nodes actor st.word (side_slot st.word b) v n m'.0
      × (n ≡ 1 → Closed st.word b v m m')
