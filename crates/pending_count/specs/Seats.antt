-- Condition: what contracts say of counts, of a seat, and of answers with seats.
use Rattle.std.specs.Prelude.{◌≡◌, ℕ, Option, ⊤}
use Rattle.atomic_table.specs.Seated.{TableId}
use Rattle.completion_core.specs.declared.action.Reply.{Reply}
use Rattle.completion_core.specs.declared.action.Reply.TheVariants.{Pending, Last}
use Rattle.pending_count.specs.declared.view.View.{View}
use Rattle.pending_count.specs.declared.place.Fits.{Ghosts}
use Rattle.pending_count.specs.declared.place.Slot.{Slot}
use Rattle.pending_count.specs.declared.counts.Counts.{Counts}
use Rattle.pending_count.specs.declared.seat.Seat.{Seat}
use Rattle.pending_count.specs.declared.seat.Arrived.{Arrived}
use Rattle.pending_count.specs.declared.seat.Arrived.TheVariants as arrived

-- what a slot of the table has
abbrev pub Content : Type 0 → Type 0 → Type 0
Content V K = Option (Slot V K)

-- how many nodes the counts have
abbrev pub nodes_of : {V K T : Type 0} → Counts V K T → ℕ
nodes_of counts = counts.nodes

module _ {V K T : Type 0} {g : Ghosts K V T} where
  -- what the seat knows
  abbrev pub view_of : Seat V K T g → View T
  view_of seat = seat.token.me.0

  -- the actor whose seat it is
  abbrev pub actor_of : Seat V K T g → ℕ
  actor_of seat = seat.token.id

  -- the table that it is a seat of
  abbrev pub table_of : Seat V K T g → TableId
  table_of seat = seat.token.table_id

  -- the seat is one of these counts
  abbrev pub IsSeatOf : Counts V K T → Seat V K T g → Type 0
  IsSeatOf counts seat = table_of seat ≡ counts.table.shared.table_id

  -- a seat of one actor and one table
  abbrev pub IsSameSeat : Seat V K T g → Seat V K T g → Type 0
  IsSameSeat seat later = (table_of later ≡ table_of seat) × (actor_of later ≡ actor_of seat)

  -- the seat that an arrival gives back
  abbrev pub seat_back : Arrived V K T g → Seat V K T g
  seat_back (arrived.Pending seat pending) = seat
  seat_back (arrived.Last seat finish) = seat

  -- what an arrival answers, as the machine says it
  abbrev pub reply_back : Arrived V K T g → Reply
  reply_back (arrived.Pending seat pending) = Pending pending
  reply_back (arrived.Last seat finish) = Last

  -- the right that comes with the last arrival is for this node
  abbrev pub IsFinishOf : ℕ → Arrived V K T g → Type 0
  IsFinishOf node (arrived.Pending seat pending) = ⊤
  IsFinishOf node (arrived.Last seat finish) = finish.node ≡ node
