-- Meaning: what the stages that look at one item at a time make of a trace.
use Rattle.std.specs.Prelude.{ℕ, suc, ℤ, Bool, true, false, List, [], ◌∷◌, Some, Result, Ok, Err}
use Rattle.lambda_values.specs.declared.fault.FaultKind.{FaultKind}
use Rattle.lambda_values.specs.Earlier.{Numbers}
use Rattle.lambda_values.specs.Streams.{Inner, inner_of, inner_value}
use Rattle.lambda_values.specs.Term.{Long, Truth, long_of, truth_of}
use Rattle.lambda_values.specs.Value.{long_value, truth_value}
use Rattle.lambda_values.specs.declared.item.Item.{Item}
use Rattle.trace.specs.declared.item.End.TheVariants as end
use Rattle.trace.specs.declared.stage.Stage.{Stage}
use Rattle.trace.specs.declared.stage.Stage.TheVariants as stage
use Rattle.trace.specs.Trace.{Trace, trace, each}

-- an abstract stage that looks at one item at a time
pub data AbstractStage : Type 0 where
  map : Long → AbstractStage
  filter : Truth → AbstractStage
  flat_map : Inner → AbstractStage

-- the walk ends at this item, with a fault of this kind in this stage
abbrev pub faulted : FaultKind → ℕ → Item → Trace
faulted k n x = trace [] (end.Fault (record { kind = k; stage = n; origin = Some x.origin }))

-- the image of an item, which keeps its place (`LongStream.map`)
abbrev pub image : ℕ → Item → Result ℤ FaultKind → Trace
image n x (Ok v) = trace (record { origin = x.origin; value = v } ∷ []) end.Done
image n x (Err k) = faulted k n x

-- the item itself, if it passes (`LongStream.filter`)
abbrev pub passed : ℕ → Item → Result Bool FaultKind → Trace
passed n x (Ok true) = trace (x ∷ []) end.Done
passed n x (Ok false) = trace [] end.Done
passed n x (Err k) = faulted k n x

-- values at one place
abbrev pub at_place : ℕ → List ℤ → List Item
at_place i [] = []
at_place i (v ∷ vs) = record { origin = i; value = v } ∷ at_place i vs

-- the values of an inner stream, all at the place of the item (`LongStream.flatMap`)
abbrev pub flattened : ℕ → Item → Result (List ℤ) FaultKind → Trace
flattened n x (Ok vs) = trace (at_place x.origin vs) end.Done
flattened n x (Err k) = faulted k n x

-- what stage number n makes of one item
abbrev pub of_item : ℕ → AbstractStage → Numbers → Item → Trace
of_item n (map e) env x = image n x (long_value e x env)
of_item n (filter p) env x = passed n x (truth_value p x env)
of_item n (flat_map g) env x = flattened n x (inner_value g x env)

-- what stage number n makes of a trace: what it makes of each item, one after the other
abbrev pub through : ℕ → AbstractStage → Numbers → Trace → Trace
through n g env t = each (of_item n g env) t.items t.ending

-- the stages in order of writing, the first one with this number; each takes what the one before it gives
abbrev pub pipe : ℕ → List AbstractStage → Numbers → Trace → Trace
pipe n [] env t = t
pipe n (g ∷ gs) env t = pipe (suc n) gs env (through n g env t)

-- helper: the abstract stage of a stage of the program
abbrev pub stage_of : Stage → AbstractStage
stage_of (stage.Map e) = map (long_of e)
stage_of (stage.Filter p) = filter (truth_of p)
stage_of (stage.FlatMap g) = flat_map (inner_of g)

-- helper: each of several stages
abbrev pub stages_of : List Stage → List AbstractStage
stages_of [] = []
stages_of (g ∷ gs) = stage_of g ∷ stages_of gs
