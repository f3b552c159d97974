-- Condition: what an arrival at a place gives, and what a finisher has to have.
use Rattle.std.specs.Prelude.{◌≡◌, ◌≢◌, ℕ, ◌+◌, ◌<◌, [], ◌∷◌, Some, None, ⊤}
use Rattle.atomic_table.specs.Seated.{TableId}
use Rattle.completion_core.specs.Legal.{count}
use Rattle.completion_core.specs.declared.action.Reply.{Reply}
use Rattle.completion_core.specs.declared.action.Reply.TheVariants.{Pending, Last}
use Rattle.pending_count.specs.declared.view.View.{View}
use Rattle.pending_count.specs.declared.place.Place.{Place}
use Rattle.pending_count.specs.declared.place.Side.TheVariants.{Left, Right}
use Rattle.pending_count.specs.declared.place.Fits.{Ghosts}
use Rattle.pending_count.specs.declared.counts.Counts.{Counts}
use Rattle.pending_count.specs.declared.seat.Seat.{Seat}
use Rattle.pending_count.specs.Pairs.{slot_of}
use Rattle.pending_count.specs.PairSteps.{IsHanded}
use Rattle.pending_count.specs.Seats.{view_of, table_of, nodes_of, actor_of}
use Rattle.completer_tree.specs.declared.climbing.Finisher.{Finisher}
use Rattle.completer_tree.specs.declared.climbing.First.{First}
use Rattle.completer_tree.specs.declared.climbing.First.TheVariants as first
use Rattle.completer_tree.specs.declared.climbing.Next.{Next}
use Rattle.completer_tree.specs.declared.climbing.Next.TheVariants as next
use Rattle.completer_tree.specs.Roots.{HasKept}
use Rattle.completer_tree.specs.Trees.{CanHand, RanBy}

-- The seat has one arrival fewer at one place and one more at the next, which is at a smaller node of the same tree.
pub record HasMoved {T : Type 0} (at p : Place T) (v w : View T) : Type 0 where
  pub root : p.root ≡ at.root
  pub smaller : p.node < at.node
  pub held : (j : ℕ) → count j w.held + count j (at.node ∷ []) ≡ count j (p.node ∷ []) + count j v.held
  pub sides : (j : ℕ) → count j w.sides + count j (slot_of at.node at.side ∷ [])
      ≡ count j (slot_of p.node p.side ∷ []) + count j v.sides
  pub noted : w.noted ≡ v.noted
  pub noted_sides : w.noted_sides ≡ v.noted_sides
  pub places : w.places ≡ v.places

module _ {V K T : Type 0} {g : Ghosts K V T} where
  -- what came in fits the two sides of the node, and the seat can hand the answer in
  pub record CanFinish (id : TableId) (seat : Seat V K T g) (finisher : Finisher V K) : Type 0 where
    pub table : table_of seat ≡ id
    pub left : g.fits (g.tag_of finisher.finish.kept) Left finisher.finish.left
    pub right : g.fits (g.tag_of finisher.finish.kept) Right finisher.finish.right
    pub next : (p : Place T) → g.place_of finisher.finish.kept ≡ Some p → CanHand id p seat

  -- The last arrival at this place: the finisher is the one of its node, and the seat has what the node kept.
  pub record HasArrived (counts : Counts V K T) (at : Place T) (seat later : Seat V K T g)
      (finisher : Finisher V K) : Type 0 where
    pub can : CanFinish counts.table.shared.table_id later finisher
    pub tag : g.tag_of finisher.finish.kept ≡ at.tag
    pub moved : (p : Place T) → g.place_of finisher.finish.kept ≡ Some p → HasMoved at p (view_of seat) (view_of later)
    pub kept : g.place_of finisher.finish.kept ≡ None → HasKept at (view_of seat) (view_of later)
    pub ran : RanBy counts seat at.node
    pub top : g.place_of finisher.finish.kept ≡ None → at.node ≡ at.root

  -- the arrival at this place, where n were owed and not made
  abbrev pub IsHandedAt : Counts V K T → Place T → Seat V K T g → ℕ → Seat V K T g → Type 0
  IsHandedAt counts at seat n later = IsHanded g.fits g.tag_of g.place_of (nodes_of counts) (actor_of seat) at.node
      (slot_of at.node at.side) (view_of seat) n (view_of later)

  -- the arrival at this place was made
  pub record WasHanded (counts : Counts V K T) (at : Place T) (seat : Seat V K T g) : Type 0 where
    pub owed : ℕ
    pub after : View T
    pub handed : IsHanded g.fits g.tag_of g.place_of (nodes_of counts) (actor_of seat) at.node (slot_of at.node at.side)
        (view_of seat) owed after

  -- An arrival of the seat's at some place was made, which wasn't the last there, and nothing after it.
  pub record WasPending (counts : Counts V K T) (seat later : Seat V K T g) : Type 0 where
    pub place : Place T
    pub before : View T
    pub owed : ℕ
    pub others : owed ≢ 1
    pub handed : IsHanded g.fits g.tag_of g.place_of (nodes_of counts) (actor_of seat) place.node
        (slot_of place.node place.side) before owed (view_of later)

  -- the seat that comes back, and what is answered, as the machine says it
  abbrev pub first_seat : First V K T g → Seat V K T g
  first_seat (first.Pending seat pending) = seat
  first_seat (first.Last seat finisher) = seat

  abbrev pub first_reply : First V K T g → Reply
  first_reply (first.Pending seat pending) = Pending pending
  first_reply (first.Last seat finisher) = Last

  abbrev pub next_seat : Next V K T g → Seat V K T g
  next_seat (next.Pending seat pending) = seat
  next_seat (next.Last seat finisher) = seat
  next_seat (next.Whole seat value) = seat

  -- if the arrival was the last, this holds of the seat and the finisher
  abbrev pub IfLast : First V K T g → (Seat V K T g → Finisher V K → Type 0) → Type 0
  IfLast (first.Pending seat pending) P = ⊤
  IfLast (first.Last seat finisher) P = P seat finisher

  abbrev pub IfNextLast : Next V K T g → (Seat V K T g → Finisher V K → Type 0) → Type 0
  IfNextLast (next.Pending seat pending) P = ⊤
  IfNextLast (next.Last seat finisher) P = P seat finisher
  IfNextLast (next.Whole seat value) P = ⊤

  -- if the answer was handed in at the parent, this holds of the seat and of what is answered, as the machine says it
  abbrev pub IfHandedOn : Next V K T g → (Seat V K T g → Reply → Type 0) → Type 0
  IfHandedOn (next.Pending seat pending) P = P seat (Pending pending)
  IfHandedOn (next.Last seat finisher) P = P seat Last
  IfHandedOn (next.Whole seat value) P = ⊤

  -- if it was the result of the tree, this holds of the seat and the result
  abbrev pub IfWhole : Next V K T g → (Seat V K T g → V → Type 0) → Type 0
  IfWhole (next.Pending seat pending) P = ⊤
  IfWhole (next.Last seat finisher) P = ⊤
  IfWhole (next.Whole seat value) P = P seat value
