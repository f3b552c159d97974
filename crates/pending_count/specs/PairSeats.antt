-- Condition: the seat that an arrival at a pair gives back.
use Rattle.std.specs.Prelude.{◌≡◌, ℕ, Bool, true, false, not, List, ◌∷◌, Option, Some, ⊤}
use Rattle.completion_core.specs.declared.action.Reply.{Reply}
use Rattle.completion_core.specs.declared.action.Reply.TheVariants.{Pending, Last}
use Rattle.pending_count.specs.declared.view.View.{View}
use Rattle.pending_count.specs.declared.place.Side.TheVariants.{Left, Right}
use Rattle.pending_count.specs.declared.place.Fits.{Ghosts}
use Rattle.pending_count.specs.declared.seat.Seat.{Seat}
use Rattle.pending_count.specs.declared.seat.ArrivedPair.{ArrivedPair}
use Rattle.pending_count.specs.declared.seat.ArrivedPair.TheVariants as handed
use Rattle.pending_count.specs.declared.place.Slot.{Slot}
use Rattle.pending_count.specs.declared.place.Slot.TheVariants.{Value, Kept as KeptValue}
use Rattle.pending_count.specs.declared.seat.FinishPair.{FinishPair}
use Rattle.pending_count.specs.Views.{kept_slot, closed_view}
use Rattle.pending_count.specs.Pairs.{side_slot, tags_after}
use Rattle.pending_count.specs.PairSteps.{IsKept}
use Rattle.pending_count.specs.Seats.{view_of}

module _ {V K : Type 0} where
  -- the slots that a token has after the last arrival: in front the kept value's, then the other side's, then its own
  pub record HasAll (node : ℕ) (is_left : Bool) (kept : K) (theirs ours : V)
      (slots : List (ℕ × Option (Slot V K))) : Type 0 where
    pub more : List (ℕ × Option (Slot V K))
    pub is : slots ≡ (kept_slot node, Some (KeptValue kept)) ∷ (side_slot node (not is_left), Some (Value theirs))
        ∷ (side_slot node is_left, Some (Value ours)) ∷ more

  -- the two values, each on its side, and the kept one
  pub record IsInOrder (is_left : Bool) (kept : K) (theirs ours : V) (finish : FinishPair V K) : Type 0 where
    pub same : finish.kept ≡ kept
    pub left : is_left ≡ true → (finish.left ≡ ours) × (finish.right ≡ theirs)
    pub right : is_left ≡ false → (finish.left ≡ theirs) × (finish.right ≡ ours)

module _ {V K T : Type 0} {g : Ghosts K V T} where
  -- the seat that an arrival at a pair gives back
  abbrev pub pair_seat : ArrivedPair V K T g → Seat V K T g
  pair_seat (handed.Pending seat pending) = seat
  pair_seat (handed.Last seat finish) = seat

  -- what it answers, as the machine says it
  abbrev pub pair_reply : ArrivedPair V K T g → Reply
  pair_reply (handed.Pending seat pending) = Pending pending
  pair_reply (handed.Last seat finish) = Last

  -- the last answer: what came in fits the node's tag on each side, and the kept value is the node's
  abbrev pub IsClosed : (node slot : ℕ) → T → View T → ArrivedPair V K T g → Type 0
  IsClosed node slot tag v (handed.Pending seat pending) = ⊤
  IsClosed node slot tag v (handed.Last seat finish) =
      (kept kept_sides : List ℕ) × (view_of seat
      ≡ closed_view node slot kept kept_sides (tags_after (g.place_of finish.kept) v.tags) v)
      × g.fits tag Left finish.left × g.fits tag Right finish.right
      × IsKept g.fits g.tag_of g.place_of node tag v finish.kept kept kept_sides
