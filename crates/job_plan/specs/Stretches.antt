-- Condition: what a walk leaves that goes on a stretch at a time, into a sink that may leave it.
use Rattle.std.specs.Prelude.{◌≡◌, ℕ, ◌≤◌, Bool, true, false, List, Ok}
use Rattle.lambda_values.specs.declared.item.Item.{Item}
use Rattle.trace.specs.declared.feeding.Fed.{Fed}
use Rattle.trace.specs.declared.sink.Flow.{Flow}
use Rattle.trace.specs.declared.sink.Flow.TheVariants as flow
use Rattle.trace.specs.Sinks.{IsFed}
use Rattle.trace.specs.Trace.{Trace}

-- a sink that was s is t, after these items went through the stages; then this became of them
abbrev pub IsWalked : {S : Type 0} → (S → List Item → Type 0) → (List Item → Trace) → List Item → S → Fed → S → Type 0
IsWalked h walk ys s r t = (xs : List Item) → h s xs → IsFed h xs (walk ys) (Ok r) t

-- a place at or before this position decides what the walk is for
abbrev pub IsDecided : (ℕ → Type 0) → ℕ → Type 0
IsDecided decides from = (c : ℕ) × decides c × (c ≤ from)

-- a sink that has left wants no item
abbrev pub flow_unless : Bool → Flow → Flow
flow_unless false f = f
flow_unless true f = flow.Enough

-- it was taken; or the sink has left, since a place that decides lies at or before the start of its piece
abbrev pub UnlessLeft : Bool → (ℕ → Type 0) → ℕ → Type 0 → Type 0
UnlessLeft false decides from taken = taken
UnlessLeft true decides from taken = IsDecided decides from

-- each place that is known decides what the walk is for
abbrev pub KnowsPlaces : {W : Type 0} → (W → ℕ → Type 0) → (ℕ → Type 0) → W → Type 0
KnowsPlaces places decides stop = (c : ℕ) → places stop c → decides c
