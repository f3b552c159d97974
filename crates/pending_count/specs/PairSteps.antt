-- Condition: what arming a pair, and arriving at it with a value, means for the graph.
use Rattle.std.specs.Prelude.{◌≡◌, ◌≢◌, ℕ, ◌-◌, ◌<◌, List, [], ◌∷◌, Option, Some}
use Rattle.completion_core.specs.declared.action.Action.TheVariants.{Arm}
use Rattle.completion_core.specs.declared.action.Reply.TheVariants.{Done}
use Rattle.completion_core.specs.Legal.{count, reply_of_arrival}
use Rattle.pending_count.specs.declared.view.View.{View}
use Rattle.pending_count.specs.declared.place.Side.{Side}
use Rattle.pending_count.specs.declared.place.Side.TheVariants.{Whole}
use Rattle.pending_count.specs.declared.place.Place.{Place}
use Rattle.pending_count.specs.declared.place.Slot.{Slot}
use Rattle.pending_count.specs.Views.{kept_slot, note_of, taken_view, paired_view, handed_view}
use Rattle.pending_count.specs.Steps.{OneStep, arrival_actions}
use Rattle.pending_count.specs.Pairs.{slot_of, noted_place}

-- the seat holds the side of the place
abbrev pub HoldsSide : {T : Type 0} → Place T → View T → Type 0
HoldsSide p v = (0 < count (slot_of p.node p.side) v.sides) × (p.side ≢ Whole)

-- if the kept value has a place, that place's arrival is all that the node keeps, and the seat knows the place's tag
abbrev pub IsPlaced : {K T : Type 0} → (K → Option (Place T)) → K → List ℕ → View T → Type 0
IsPlaced {T = T} place_of kept onward v =
    (p : Place T) → place_of kept ≡ Some p
    → (onward ≡ p.node ∷ []) × HoldsSide p v × (note_of p.node v.tags ≡ Some p.tag)

module _ {V K T : Type 0} (fits : T → Side → V → Type 0) (tag_of : K → T) (place_of : K → Option (Place T)) where
  -- a node, whose word was 0, was armed as a pair, with what it keeps for the last of its two arrivals
  pub record IsPaired (nodes actor node : ℕ) (onward : List ℕ) (kept : K) (v w : View T) : Type 0 where
    pub view : w ≡ paired_view node onward (tag_of kept) (noted_place (place_of kept)) v
    pub one_step : OneStep (Option (Slot V K)) nodes node 0 2 actor (taken_view (kept_slot node) v) w
        (Arm actor node 1 onward ∷ []) Done

  -- What the last arrival at a pair with this tag gets: the kept value has the tag, and the place that it was armed
  -- with; that place is at a smaller node and has the tag that the seat noted, and the node kept the arrival of that
  -- place alone.
  pub record IsKept (node : ℕ) (tag : T) (v : View T) (k : K) (kept kept_sides : List ℕ) : Type 0 where
    pub same_tag : tag_of k ≡ tag
    pub place : (p : Place T) → place_of k ≡ Some p
        → ((j : ℕ) → count j kept ≡ count j (p.node ∷ []))
        × ((j : ℕ) → count j kept_sides ≡ count j (slot_of p.node p.side ∷ []))
    pub smaller : (p : Place T) → place_of k ≡ Some p → p.node < node
    pub agrees : (p : Place T) → place_of k ≡ Some p → (t : T) → note_of p.node v.tags ≡ Some t → t ≡ p.tag
    pub armed_with : (q : Option (ℕ × (ℕ × (ℕ × T)))) → note_of node v.places ≡ Some q → noted_place (place_of k) ≡ q
    pub noted : (given : List ℕ) → note_of node v.noted ≡ Some given → (j : ℕ) → count j kept ≡ count j given
    pub noted_sides : (given : List ℕ) → note_of node v.noted_sides ≡ Some given → (j : ℕ)
        → count j kept_sides ≡ count j given

  -- an arrival at a pair on one side, where n were owed and not made
  pub record IsHanded (nodes actor node slot : ℕ) (v : View T) (n : ℕ) (w : View T) : Type 0 where
    pub some_owed : 0 < n
    pub pending : n ≢ 1 → w ≡ handed_view node slot v
    pub one_step : OneStep (Option (Slot V K)) nodes node n (n - 1) actor (taken_view slot v) w
        (arrival_actions actor node n) (reply_of_arrival (n - 1))
