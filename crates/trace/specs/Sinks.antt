-- Design: what a walk leaves in its sink.
use Rattle.std.specs.Prelude.{◌≡◌, ℕ, ◌<◌, ◌≤◌, List, ◌++◌, length, take, Result, Ok, Err}
use Rattle.std.specs.declared.alloc.AllocError.{AllocError}
use Rattle.lambda_values.specs.declared.item.Item.{Item}
use Rattle.trace.specs.declared.item.End.{End}
use Rattle.trace.specs.declared.item.End.TheVariants as end
use Rattle.trace.specs.declared.sink.Flow.{Flow}
use Rattle.trace.specs.declared.sink.Flow.TheVariants as flow
use Rattle.trace.specs.declared.feeding.Fed.{Fed}
use Rattle.trace.specs.declared.feeding.Fed.TheVariants as fed
use Rattle.trace.specs.Trace.{Trace}

-- a chunk that has ended takes no more items
abbrev pub flow_at : End → Flow
flow_at end.Done = flow.More
flow_at (end.Fault f) = flow.Enough

-- a sink that had taken the items xs took these of the walk t, and is s now, by what was answered:
-- More, Fault: all; the walk was done, or ended in this fault
-- Enough: the first ones, after which it had enough, or left the walk
-- no memory: the first ones, up to, not with, the one that it refused
abbrev pub IsFed : {S : Type 0} → (S → List Item → Type 0) → List Item → Trace → Result Fed AllocError → S → Type 0
IsFed has_taken xs t (Ok fed.More) s = has_taken s (xs ++ t.items) × (t.ending ≡ end.Done)
IsFed has_taken xs t (Ok (fed.Fault f)) s = has_taken s (xs ++ t.items) × (t.ending ≡ end.Fault f)
IsFed has_taken xs t (Ok fed.Enough) s = (k : ℕ) × (k ≤ length t.items) × has_taken s (xs ++ take k t.items)
IsFed has_taken xs t (Err e) s = (k : ℕ) × (k < length t.items) × has_taken s (xs ++ take k t.items)

-- what the sink wants after that: it was given items until it had enough, or left
abbrev pub flow_after : Result Fed AllocError → Flow
flow_after (Ok fed.More) = flow.More
flow_after (Ok (fed.Fault f)) = flow.More
flow_after (Ok fed.Enough) = flow.Enough
flow_after (Err e) = flow.More
