-- Meaning: the items of a source, in encounter order.
use Rattle.std.specs.Prelude.{ℕ, suc, ◌^◌, ℤ, nat_lt, if◌then◌else◌, List, [], ◌∷◌, ◌++◌, length, None}
use Rattle.lambda_values.specs.declared.fault.FaultKind.TheVariants.{SourceTooLong}
pub use Rattle.lambda_values.specs.Streams.{counted, distance}
use Rattle.lambda_values.specs.declared.item.Item.{Item}
use Rattle.trace.specs.declared.item.End.TheVariants as end
use Rattle.trace.specs.Trace.{Trace, trace}

-- an abstract source
pub data AbstractSource : Type 0 where
  range : ℤ → ℤ → AbstractSource
  values : List ℤ → AbstractSource
  concat : AbstractSource → AbstractSource → AbstractSource

-- the values of a source (`LongStream.range`, `of`, `concat`)
abbrev pub values_of : AbstractSource → List ℤ
values_of (range a b) = counted a (distance a b)
values_of (values vs) = vs
values_of (concat s t) = values_of s ++ values_of t

-- values at places that count up from the first
abbrev pub placed : ℕ → List ℤ → List Item
placed i [] = []
placed i (v ∷ vs) = record { origin = i; value = v } ∷ placed (suc i) vs

-- a source of more than 2^62 values has no items, and a fault of no stage and no item
abbrev pub too_long : Trace
too_long = trace [] (end.Fault (record { kind = SourceTooLong; stage = 0; origin = None }))

-- the trace of a source: its values at the places 0, 1, 2 and so on
abbrev pub cover : AbstractSource → Trace
cover s = if nat_lt (2 ^ 62) (length (values_of s)) then too_long else trace (placed 0 (values_of s)) end.Done
