-- Condition: what the parts and sources of the program mean.
use Rattle.std.specs.Prelude.{◌≡◌, ◌||◌, ℕ, zero, suc, ℤ, Bool, true, false, if◌then◌else◌, List, Option, Some, is_some}
use Rattle.std.specs.Prelude.{None}
use Rattle.lambda_values.specs.Earlier.{Numbers}
use Rattle.lambda_values.specs.declared.item.Item.{Item}
use Rattle.trace.specs.declared.item.End.{End}
use Rattle.trace.specs.declared.item.End.TheVariants as end
use Rattle.trace.specs.declared.sink.Flow.{Flow}
use Rattle.trace.specs.declared.sink.Flow.TheVariants as flow
use Rattle.trace.specs.Trace.{Trace, trace, append}
use Rattle.reduce_ops.specs.declared.op.Op.{Op}
use Rattle.reduce_ops.specs.Parts.{StandsFor as FoldStands}
use Rattle.reduce_ops.specs.Reaches.{StandsFor as SumStands, is_running as is_running_sum, is_settled as sum_is_settled}
use Rattle.reduce_ops.specs.Reaches.{may_search as sum_may_search}
use Rattle.sort_ops.specs.Parts.{AreFirsts, least_of}
use Rattle.sort_ops.specs.Runs.{with_places}
use Rattle.find_ops.specs.Parts.{StandsFor as FindStands}
use Rattle.early_stop.specs.Leaving.{IsEnough}
use Rattle.job_plan.specs.Arrays.{array_of}
use Rattle.job_plan.specs.Bases.{base_walk}
use Rattle.prefix_walks.specs.Scans.{scan}
use Rattle.job_plan.specs.declared.fold_part.FoldPart.{FoldPart}
use Rattle.job_plan.specs.declared.part.Part.{Part}
use Rattle.job_plan.specs.declared.part.Part.TheVariants as part
use Rattle.job_plan.specs.declared.source.Source.{Source}
use Rattle.prefix_walks.specs.Batches.{counted_as}
use Rattle.job_routes.specs.Legs.{AbstractEnd, folding, finding, collecting, exactly, scanning, sorting, keeping_firsts}
use Rattle.job_routes.specs.Legs.{AbstractSegment, walk_of, last_stage, windowed}
use Rattle.trace.specs.declared.item.Fault.{Fault}

-- the walk over a source of the program
abbrev pub walk_in : Source → Trace
walk_in s = windowed s.window.from s.window.to (base_walk s.base)

-- a fold with this operator and start has the fold of this walk, and its end
pub record IsFold (f : Op) (a : Option ℤ) (counts : Bool) (p : FoldPart) (t : Trace) : Type 0 where
  pub start : p.start ≡ a
  pub op : p.partial.op ≡ f
  pub counting : p.counts ≡ counts
  pub stands : FoldStands p.partial (trace (counted_as counts t.items) t.ending)

-- a part describes a walk that came through the stages, at this end, which is the stage with this number; a part of
-- another kind than the end describes none
abbrev pub EndsFor : AbstractEnd → ℕ → Numbers → Part → Trace → Type 0
EndsFor (folding f a counts) n env (part.Fold p) t = IsFold f a counts p t
EndsFor (finding d) n env (part.Find p) t = FindStands d n env p t
EndsFor collecting n env (part.Array c) t = c ≡ array_of t
EndsFor (scanning f r) n env (part.Prefix p) t = p ≡ scan f r n t
EndsFor exactly n env (part.Exact p) t = SumStands n p t
EndsFor (sorting m places) n env (part.Sorted p) t = p ≡ least_of m (with_places places t)
EndsFor (keeping_firsts m) n env (part.Distinct p) t = AreFirsts m p t
EndsFor e n env p t = ⊥

-- whether a part of a whole walk may leave it open what the segment gives, so that the walk is to be done once more, in
-- order
abbrev pub may_search : Part → Bool
may_search (part.Exact p) = sum_may_search p
may_search p = false

-- a part goes on from another one with this walk
abbrev pub GoesOnFrom : AbstractEnd → ℕ → Numbers → Part → Part → Trace → Type 0
GoesOnFrom e n env begun p u = ((t : Trace) → EndsFor e n env begun t → EndsFor e n env p (append t u))
    × (may_search p ≡ may_search begun)

-- a part goes on from another one with these items
abbrev pub HasTaken : AbstractEnd → ℕ → Numbers → Part → Part → List Item → Type 0
HasTaken e n env begun p xs = GoesOnFrom e n env begun p (trace xs end.Done)

-- a part describes a piece of a segment's source
abbrev pub StandsFor : AbstractSegment → Numbers → Part → Trace → Type 0
StandsFor s env p t = EndsFor s.ending (last_stage s) env p (walk_of s env t)

-- a part describes enough of the piece of a segment's source that begins at this place: all of it, or what comes before
-- a place that decides
abbrev pub StandsEnough : (ℕ → Type 0) → AbstractSegment → Numbers → Part → ℕ → Trace → Type 0
StandsEnough decides s env p at piece = (t : Trace) × IsEnough decides at piece t × StandsFor s env p t

-- helper: whether a walk ended in a fault
abbrev pub is_fault : End → Bool
is_fault end.Done = false
is_fault (end.Fault f) = true

-- whether nothing after the piece matters
abbrev pub is_settled : Part → Bool
is_settled (part.Fold p) = is_fault p.partial.end
is_settled (part.Find p) = is_some p.decision
is_settled (part.Array c) = is_fault c.ending
is_settled (part.Prefix p) = is_fault p.walk.ending
is_settled (part.Exact p) = sum_is_settled p
is_settled (part.Sorted p) = is_fault p.kept.ending
is_settled (part.Distinct p) = is_fault p.kept.ending || p.full

-- whether a part is the sum of a walk from the first item on
abbrev pub is_running : Part → Bool
is_running (part.Exact p) = is_running_sum p
is_running p = false

-- whether a part of a piece that begins at this position settles what the segment gives: a sum from the first item on
-- does so only at the beginning
abbrev pub settles : ℕ → Part → Bool
settles zero p = is_settled p
settles (suc k) p = if is_running p then false else is_settled p

-- whether the parts of an end keep items; to merge two of them may then take memory
abbrev pub end_keeps_items : AbstractEnd → Bool
end_keeps_items collecting = true
end_keeps_items (scanning f r) = true
end_keeps_items (sorting m places) = true
end_keeps_items (keeping_firsts m) = true
end_keeps_items e = false

-- whether a part keeps items
abbrev pub keeps_items : Part → Bool
keeps_items (part.Array c) = true
keeps_items (part.Prefix p) = true
keeps_items (part.Sorted p) = true
keeps_items (part.Distinct p) = true
keeps_items p = false

-- whether a part takes more items
abbrev pub flow_of : Bool → Flow
flow_of true = flow.Enough
flow_of false = flow.More

-- the fault of an end
abbrev pub end_fault : End → Option Fault
end_fault end.Done = None
end_fault (end.Fault f) = Some f

-- the fault in which a fold ended; the other parts have none
abbrev pub fold_fault : Part → Option Fault
fold_fault (part.Fold p) = end_fault p.partial.end
fold_fault p = None
