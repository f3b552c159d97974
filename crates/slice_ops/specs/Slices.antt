-- Meaning: what the stages that look at a whole walk make of it.
use Rattle.std.specs.Prelude.{ℕ, Bool, true, false, nat_lt, if◌then◌else◌, Option, Some, None, Result, Ok, Err, length}
use Rattle.std.specs.Prelude.{take, drop}
use Rattle.lambda_values.specs.Earlier.{Numbers}
use Rattle.lambda_values.specs.Term.{Truth, truth_of}
use Rattle.lambda_values.specs.Value.{truth_value}
use Rattle.lambda_values.specs.declared.fault.FaultKind.{FaultKind}
use Rattle.lambda_values.specs.declared.item.Item.{Item}
use Rattle.trace.specs.declared.item.End.{End}
use Rattle.trace.specs.declared.item.End.TheVariants as end
use Rattle.trace.specs.Stops.{stop_at, kept_before, kept_from}
use Rattle.trace.specs.Trace.{Trace, trace}
use Rattle.slice_ops.specs.declared.slice_part.Slice.{Slice}
use Rattle.slice_ops.specs.declared.slice_part.Slice.TheVariants as slice

-- a stage, by its number or its test
pub data AbstractSlice : Type 0 where
  limit : ℕ → AbstractSlice
  skip : ℕ → AbstractSlice
  take_while : Truth → AbstractSlice
  drop_while : Truth → AbstractSlice

-- the slice that a stage of the program means
abbrev pub slice_of : Slice → AbstractSlice
slice_of (slice.Limit k) = limit k
slice_of (slice.Skip k) = skip k
slice_of (slice.TakeWhile p) = take_while (truth_of p)
slice_of (slice.DropWhile p) = drop_while (truth_of p)

-- if there are k items, these and nothing after them (`LongStream.limit`)
abbrev pub limited : ℕ → Trace → Trace
limited k t = if nat_lt (length t.items) k then t else trace (take k t.items) end.Done

-- without the first k items (`LongStream.skip`)
abbrev pub skipped : ℕ → Trace → Trace
skipped k t = trace (drop k t.items) t.ending

-- helper: a test that is false ends the front of a walk; a test without a value ends the walk with a fault
abbrev pub end_by : ℕ → Item → Result Bool FaultKind → Option End
end_by n x (Ok true) = None
end_by n x (Ok false) = Some end.Done
end_by n x (Err k) = Some (end.Fault (record { kind = k; stage = n; origin = Some x.origin }))

-- how the front of a walk ends before an item, if it does
abbrev pub front_ends : Truth → ℕ → Numbers → Item → Option End
front_ends p n env x = end_by n x (truth_value p x env)

-- the items before the first one at which the test isn't true (`LongStream.takeWhile`)
abbrev pub taken : Truth → ℕ → Numbers → Trace → Trace
taken p n env t = kept_before (stop_at (front_ends p n env) t.items) t

-- the items from that one on (`LongStream.dropWhile`)
abbrev pub dropped : Truth → ℕ → Numbers → Trace → Trace
dropped p n env t = kept_from (stop_at (front_ends p n env) t.items) t

-- what the stage with this number makes of a walk
abbrev pub sliced : AbstractSlice → ℕ → Numbers → Trace → Trace
sliced (limit k) n env t = limited k t
sliced (skip k) n env t = skipped k t
sliced (take_while p) n env t = taken p n env t
sliced (drop_while p) n env t = dropped p n env t
