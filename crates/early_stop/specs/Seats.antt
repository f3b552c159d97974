-- Design: what calls show of a cut and of a seat.
use Rattle.std.specs.Prelude.{◌≡◌, ℕ}
use Rattle.atomic_table.specs.Seated.{TableId}
use Rattle.early_stop.specs.declared.view.KnownPlaces.{KnownPlaces}
use Rattle.early_stop.specs.declared.cut.Cut.{Cut}
use Rattle.early_stop.specs.declared.cut.CutSeat.{CutSeat}

-- what the seat knows
abbrev pub view_of : CutSeat → KnownPlaces
view_of seat = seat.token.me.0

-- the number of the seat
abbrev pub actor_of : CutSeat → ℕ
actor_of seat = seat.token.id

abbrev pub table_of : CutSeat → TableId
table_of seat = seat.token.table_id

abbrev pub IsSameSeat : CutSeat → CutSeat → Type 0
IsSameSeat seat later = (table_of later ≡ table_of seat) × (actor_of later ≡ actor_of seat)

module _ {S O : Type 0} where
  -- the segments that the cut was made for
  abbrev pub segments_of : Cut S O → S
  segments_of cut = cut.table.shared.key

  -- how many they are
  abbrev pub count_of : Cut S O → ℕ
  count_of cut = cut.segments

  -- the seat is one of this cut
  abbrev pub IsSeatOf : Cut S O → CutSeat → Type 0
  IsSeatOf cut seat = table_of seat ≡ cut.table.shared.table_id
