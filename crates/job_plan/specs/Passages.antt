-- Condition: a slice in the middle of a walk, and what went on from it.
use Rattle.std.specs.Prelude.{◌≡◌, ℕ, List, [], Option, Some, None, ⊤}
use Rattle.lambda_values.specs.Earlier.{Numbers}
use Rattle.lambda_values.specs.declared.item.Item.{Item}
use Rattle.trace.specs.declared.item.End.{End}
use Rattle.trace.specs.declared.item.End.TheVariants as end
use Rattle.trace.specs.declared.feeding.Fed.{Fed}
use Rattle.trace.specs.declared.feeding.Fed.TheVariants as fed
use Rattle.trace.specs.declared.sink.Flow.{Flow}
use Rattle.trace.specs.declared.sink.Flow.TheVariants as flow
use Rattle.trace.specs.Trace.{Trace, trace, nothing, append}
use Rattle.slice_ops.specs.Rests.{rest_of}
use Rattle.slice_ops.specs.Slices.{AbstractSlice, skip, sliced}
use Rattle.batch_eval.specs.declared.pipeline.Pipeline.{Pipeline}
use Rattle.trace.specs.Stages.{stages_of}
use Rattle.job_plan.specs.declared.link_sink.Junction.{Junction}
use Rattle.job_plan.specs.declared.link_sink.Passage.{Passage}
use Rattle.job_plan.specs.declared.link_sink.Passage.TheVariants as passage
use Rattle.job_plan.specs.declared.link_sink.Passing.{Passing}
use Rattle.job_routes.specs.Legs.{AbstractLink, AbstractSegment, collecting, walk_of}

-- a link that lets all items pass
abbrev pub open_link : AbstractLink
open_link = record { first = 0; stages = []; slice = skip 0 }

-- where a slice stands: the number of its stage, and the stages after it with the values of names
pub record AbstractJunction : Type 0 where
  pub stage : ℕ
  pub next : AbstractSegment
  pub env : Numbers

-- stages of the program, as a segment that keeps the values
abbrev pub line_in : Pipeline → AbstractSegment
line_in l = record { first = l.first; stages = stages_of l.stages.now; ending = collecting }

abbrev pub junction_of : ℕ → Pipeline → AbstractJunction
junction_of stage line = record { stage = stage; next = line_in line; env = line.env.now }

abbrev pub junction_in : Junction → AbstractJunction
junction_in j = junction_of j.stage j.next

-- what a walk becomes in a slice that stands there, and then in the stages after it
abbrev pub through_link : AbstractSlice → AbstractJunction → Trace → Trace
through_link d j t = walk_of j.next j.env (sliced d j.stage j.env t)

-- whether a slice wants items, if the next sink wants so
abbrev pub passage_flow : Passage → Flow → Flow
passage_flow passage.Open f = f
passage_flow passage.Enough f = flow.Enough
passage_flow (passage.Ended e) f = flow.Enough
passage_flow passage.Refused f = flow.More

-- how a slice goes on after items that it cut, if this became of those that pass, and the walk goes on after them or
-- ends in a fault of the slice: nothing comes any more after a fault, nor from a slice that lets nothing pass
abbrev pub IsAfter : Fed → End → AbstractSlice → Passage → Type 0
IsAfter fed.More e rest passage.Open = e ≡ end.Done
IsAfter fed.More e rest passage.Enough = ⊥
IsAfter fed.More e rest (passage.Ended k) =
    (k ≡ e) × (e ≡ end.Done → (n : ℕ) (env : Numbers) (later : Trace) → sliced rest n env later ≡ nothing)
IsAfter fed.More e rest passage.Refused = ⊥
IsAfter (fed.Fault f) e rest p = p ≡ passage.Ended (end.Fault f)
IsAfter fed.Enough e rest p = p ≡ passage.Enough

-- how the walk into the next sink ends, if the one into the slice ends so
abbrev pub EndsAs : Passage → AbstractSlice → End → Option End → Type 0
EndsAs passage.Open rest e (Some k) = (n : ℕ) (env : Numbers) → sliced rest n env (trace [] e) ≡ trace [] k
EndsAs passage.Open rest e None = ⊥
EndsAs passage.Enough rest e (Some k) = ⊤
EndsAs passage.Enough rest e None = ⊥
EndsAs (passage.Ended x) rest e (Some k) = k ≡ x
EndsAs (passage.Ended x) rest e None = ⊥
EndsAs passage.Refused rest e (Some k) = ⊥
EndsAs passage.Refused rest e None = ⊤

-- what a slice answers that goes on so
abbrev pub fed_by : Passage → Fed
fed_by passage.Open = fed.More
fed_by passage.Enough = fed.Enough
fed_by (passage.Ended e) = fed.Enough
fed_by passage.Refused = fed.Enough

module _ {S : Type 0} (has_taken : S → List Item → Type 0) (wants : S → Flow) (begun : AbstractSlice)
    (j : AbstractJunction) where
  -- what goes into the next sink, if these items went into the slice, and then this walk
  abbrev pub onward : List Item → Trace → Trace
  onward xs later = through_link begun j (append (trace xs end.Done) later)

  -- helper: by what is left of the slice, whether items go on, and the next sink
  abbrev pub HasPassedTo : AbstractSlice → Passage → S → List Item → Type 0
  HasPassedTo rest passage.Open s xs = (ys : List Item) × has_taken s ys
      × ((later : Trace) → onward xs later ≡ append (trace ys end.Done) (through_link rest j later))
  HasPassedTo rest passage.Enough s xs = (ys : List Item) × has_taken s ys × (wants s ≡ flow.Enough)
      × ((later : Trace) → (z : Trace) × (onward xs later ≡ append (trace ys end.Done) z))
  HasPassedTo rest (passage.Ended e) s xs =
      (ys : List Item) × has_taken s ys × ((later : Trace) → onward xs later ≡ append (trace ys end.Done) (trace [] e))
  HasPassedTo rest passage.Refused s xs = ⊤

  -- these items went into a slice, and the next sink has taken what became of them
  abbrev pub HasPassed : Passing S → List Item → Type 0
  HasPassed p xs = HasPassedTo (rest_of p.rest) p.passage p.inner.value xs
