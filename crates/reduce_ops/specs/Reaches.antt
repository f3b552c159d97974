-- Condition: the range of the sums of a piece, and which walks the parts of exact sums describe.
use Rattle.std.specs.Prelude.{◌≡◌, ◌⊎◌, ℕ, ◌^◌, ℤ, pos, negsuc, ◌+ℤ◌, ◌-ℤ◌, ◌≤ℤ◌, neg_ℤ, Bool, true, false, List, map}
use Rattle.std.specs.Prelude.{Option, Some, None, Result, Ok, Err, ⊤}
use Rattle.std.specs.Int.{int_max, int_min}
use Rattle.std.specs.List.{fold}
use Rattle.lambda_values.specs.Operators.{is_long}
use Rattle.lambda_values.specs.declared.item.Item.{Item}
use Rattle.trace.specs.declared.item.Fault.{Fault}
use Rattle.trace.specs.declared.item.End.{End}
use Rattle.trace.specs.declared.item.End.TheVariants as end
use Rattle.trace.specs.Trace.{Trace}
use Rattle.reduce_ops.specs.declared.reach.Reach.{Reach}
use Rattle.reduce_ops.specs.declared.exact.Exact.{Exact}
use Rattle.reduce_ops.specs.declared.exact.Exact.TheVariants as exact
use Rattle.reduce_ops.specs.declared.exact_part.ExactPart.{ExactPart}
use Rattle.reduce_ops.specs.declared.exact_part.ExactPart.TheVariants as piece
use Rattle.reduce_ops.specs.declared.sum_part.SumPart.{SumPart}
use Rattle.reduce_ops.specs.declared.sum_part.SumPart.TheVariants as part
use Rattle.reduce_ops.specs.ExactSums.{exact_from, exact_sum}

-- the sum of values, and the least and the greatest of their running sums, 0 among them, which is the sum of none
pub record AbstractReach : Type 0 where
  pub total : ℤ
  pub least : ℤ
  pub greatest : ℤ

-- of no value
abbrev pub no_reach : AbstractReach
no_reach = record { total = pos 0; least = pos 0; greatest = pos 0 }

-- with one more value
abbrev pub reach_on : AbstractReach → ℤ → AbstractReach
reach_on r v = record {
  total = r.total +ℤ v;
  least = int_min (r.total +ℤ v) r.least;
  greatest = int_max (r.total +ℤ v) r.greatest;
}

-- of values, and of the items of a piece
abbrev pub reach_of : List ℤ → AbstractReach
reach_of vs = fold reach_on no_reach vs

abbrev pub item_values : List Item → List ℤ
item_values xs = map (λ (x : Item). x.value) xs

-- of the values of two pieces side by side
abbrev pub reach_beside : AbstractReach → AbstractReach → AbstractReach
reach_beside r s = record {
  total = r.total +ℤ s.total;
  least = int_min (r.total +ℤ s.least) r.least;
  greatest = int_max (r.total +ℤ s.total) (int_max (r.total +ℤ s.greatest) r.greatest);
}

-- no sum is below 0, or none is above
abbrev pub IsOneSided : AbstractReach → Type 0
IsOneSided r = (r.least ≡ pos 0) ⊎ (r.greatest ≡ pos 0)

-- sums that come after these and reach so far are neither below the least of these nor above the greatest
abbrev pub Covers : AbstractReach → AbstractReach → Type 0
Covers r s = (r.least ≤ℤ (r.total +ℤ s.least)) × ((r.total +ℤ s.greatest) ≤ℤ r.greatest)

-- the first has the total of the second and reaches at least as far; its least and its greatest sum add up to the total
abbrev pub IsWidest : AbstractReach → AbstractReach → Type 0
IsWidest w r = (w.total ≡ r.total) × (w.total ≡ (w.least +ℤ w.greatest)) × (w.least ≤ℤ r.least)
    × (r.greatest ≤ℤ w.greatest)

-- some sums differ by 2^64 or more
abbrev pub IsWide : AbstractReach → Type 0
IsWide r = pos (2 ^ 64) ≤ℤ (r.greatest -ℤ r.least)

-- no sum from this start is outside 64 bits
abbrev pub Holds : ℤ → AbstractReach → Type 0
Holds a r = (negsuc 9223372036854775807 ≤ℤ (a +ℤ r.least)) × ((a +ℤ r.greatest) ≤ℤ pos 9223372036854775807)

-- from -2^49 to 2^49
abbrev pub IsSmall : ℤ → Type 0
IsSmall v = (neg_ℤ (pos 562949953421312) ≤ℤ v) × (v ≤ℤ pos 562949953421312)

-- the reach of the program
abbrev pub reach_in : Reach → AbstractReach
reach_in r = record { total = pos r.rise -ℤ pos r.below; least = neg_ℤ (pos r.below); greatest = pos r.above }

-- it is this one; if there is none, this one is wide
abbrev pub IsReach : Option Reach → AbstractReach → Type 0
IsReach (Some r) s = reach_in r ≡ s
IsReach None s = IsWide s

-- it is the total after a start from which all sums are in 64 bits; if there is none, one is outside
abbrev pub IsSumFrom : ℤ → Option ℤ → AbstractReach → Type 0
IsSumFrom a (Some z) r = (z ≡ a +ℤ r.total) × Holds a r
IsSumFrom a None r = r.total ≤ℤ r.greatest → Holds a r → ⊥

-- from every start in 64 bits the sum of these items is at some item outside 64 bits
abbrev pub IsOver : List Item → Type 0
IsOver xs = (a : ℤ) → is_long a ≡ true → (x : Item) × (exact_from a xs ≡ Err x)

-- the part describes a piece, wherever this begins
abbrev pub IsPiece : ExactPart → Trace → Type 0
IsPiece (piece.Within r e) t = (reach_in r ≡ reach_of (item_values t.items)) × (e ≡ t.ending)
IsPiece piece.Over t = IsOver t.items

-- what is known of the exact sum of a walk, by the terminal with this number: at `Search` that the sum is at some item
-- outside 64 bits
abbrev pub IsExact : ℕ → Trace → Exact → Type 0
IsExact n t (exact.Sum z) = exact_sum n t ≡ Ok z
IsExact n t (exact.Fault f) = exact_sum n t ≡ Err f
IsExact n t exact.Search = (x : Item) × (exact_from (pos 0) t.items ≡ Err x)

-- a sum, or the fault that ended it
abbrev pub exact_of : Result ℤ Fault → Exact
exact_of (Ok z) = exact.Sum z
exact_of (Err f) = exact.Fault f

-- whether nothing after the walk matters
abbrev pub is_ended : Exact → Bool
is_ended (exact.Sum z) = false
is_ended (exact.Fault f) = true
is_ended exact.Search = true

abbrev pub is_search : Exact → Bool
is_search (exact.Sum z) = false
is_search (exact.Fault f) = false
is_search exact.Search = true

-- a part describes a walk, by the terminal with this number; of an unknown sum nothing is known
abbrev pub StandsFor : ℕ → SumPart → Trace → Type 0
StandsFor n (part.Piece p) t = IsPiece p t
StandsFor n (part.Running r) t = IsExact n t r
StandsFor n part.Unknown t = ⊤

-- helper: whether a walk ended in a fault
abbrev pub is_fault : End → Bool
is_fault end.Done = false
is_fault (end.Fault f) = true

-- whether nothing after a piece matters
abbrev pub is_over : ExactPart → Bool
is_over (piece.Within r e) = is_fault e
is_over piece.Over = true

abbrev pub is_settled : SumPart → Bool
is_settled (part.Piece p) = is_over p
is_settled (part.Running r) = is_ended r
is_settled part.Unknown = false

-- whether a part of a whole walk may leave it open what the sum is
abbrev pub may_search : SumPart → Bool
may_search (part.Piece p) = true
may_search (part.Running r) = is_search r
may_search part.Unknown = true

-- whether a part is the sum of a walk from the first item on
abbrev pub is_running : SumPart → Bool
is_running (part.Piece p) = false
is_running (part.Running r) = true
is_running part.Unknown = false

-- whether a part is the part of a piece
abbrev pub is_piece : SumPart → Bool
is_piece (part.Piece p) = true
is_piece (part.Running r) = false
is_piece part.Unknown = false
