-- Condition: which walk the part of a slice describes.
use Rattle.std.specs.Prelude.{◌≡◌, ℕ, Bool, true, false, not, nat_lt, length, is_some}
use Rattle.lambda_values.specs.Earlier.{Numbers}
use Rattle.trace.specs.declared.item.End.{End}
use Rattle.trace.specs.declared.item.End.TheVariants as end
use Rattle.trace.specs.Stops.{stop_at}
use Rattle.trace.specs.Trace.{Trace}
use Rattle.slice_ops.specs.declared.slice_part.SlicePart.{SlicePart}
use Rattle.slice_ops.specs.Slices.{AbstractSlice, limit, skip, take_while, drop_while, slice_of, limited, taken}
use Rattle.slice_ops.specs.Slices.{front_ends}

-- what is kept of a piece: what stands left of it doesn't matter to `limit` and `takeWhile`
abbrev pub kept_of : AbstractSlice → ℕ → Numbers → Trace → Trace
kept_of (limit k) n env t = limited k t
kept_of (skip k) n env t = t
kept_of (take_while p) n env t = taken p n env t
kept_of (drop_while p) n env t = t

-- whether nothing after the piece matters
abbrev pub stops : AbstractSlice → ℕ → Numbers → Trace → Bool
stops (limit k) n env t = not (nat_lt (length t.items) k)
stops (skip k) n env t = false
stops (take_while p) n env t = is_some (stop_at (front_ends p n env) t.items)
stops (drop_while p) n env t = false

-- the part of a piece with this walk
pub record StandsFor (d : AbstractSlice) (n : ℕ) (env : Numbers) (p : SlicePart) (t : Trace) : Type 0 where
  pub slice : slice_of p.slice.now ≡ d
  pub stage : p.stage ≡ n
  pub chunk : p.chunk ≡ kept_of d n env t
  pub stopped : p.stopped ≡ stops d n env t

-- what a chunk becomes to which the right piece was appended, and whether the joined piece stops
abbrev pub IsJoined : AbstractSlice → Trace → Bool → Trace → Bool → Type 0
IsJoined (limit k) t right_stops kept joined_stops =
    (kept ≡ limited k t) × (joined_stops ≡ not (nat_lt (length t.items) k))
IsJoined (skip k) t right_stops kept joined_stops = (kept ≡ t) × (joined_stops ≡ right_stops)
IsJoined (take_while p) t right_stops kept joined_stops = (kept ≡ t) × (joined_stops ≡ right_stops)
IsJoined (drop_while p) t right_stops kept joined_stops = (kept ≡ t) × (joined_stops ≡ right_stops)

-- whether nothing after a piece matters; its chunk has this end
abbrev pub is_settled_by : End → Bool → Bool
is_settled_by end.Done stopped = stopped
is_settled_by (end.Fault f) stopped = true

-- whether nothing after the piece matters
abbrev pub is_settled : SlicePart → Bool
is_settled p = is_settled_by p.chunk.ending p.stopped
