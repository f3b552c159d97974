use Rattle.std.proofs.Common.{◌≡◌, ◌≤◌, ◌-◌, List, length, take, Ok}
use Rattle.lambda_values.specs.declared.item.Item.{Item}
use Rattle.trace.specs.declared.item.End.TheVariants as end
use Rattle.trace.specs.declared.sink.Flow.TheVariants as flow
use Rattle.trace.specs.declared.feeding.Fed.TheVariants as fed
use Rattle.trace.specs.Sinks.{IsFed}
use Rattle.trace.specs.Trace.{trace}
use Rattle.batch_eval.specs.Pipelines.{piped}
use Rattle.sort_ops.specs.Runs.{items_of}
use Rattle.prefix_walks.proofs.kept_items.feed_parts.Given as goal

abbrev pub invariant-loop-from : goal.invariant-loop-from
invariant-loop-from g l = (l.from ≤ length (items_of l.items)) × (g.S.LongSink.flow l.sink ≡ flow.More)
    × ((xs : List Item) → g.S.LongSink.has_taken l.initial.sink xs
    → IsFed g.S.LongSink.has_taken xs (piped l.line (trace (take l.from (items_of l.items)) end.Done)) (Ok fed.More)
    l.sink)

abbrev pub decreases-loop-from : goal.decreases-loop-from
decreases-loop-from g l = length (items_of l.items) - l.from
