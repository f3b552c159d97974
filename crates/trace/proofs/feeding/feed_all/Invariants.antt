use Rattle.std.proofs.Common.{◌≡◌, List, take, Ok}
use Rattle.lambda_values.specs.declared.item.Item.{Item}
use Rattle.trace.specs.declared.item.End.TheVariants as end
use Rattle.trace.specs.declared.sink.Flow.TheVariants as flow
use Rattle.trace.specs.declared.feeding.Fed.TheVariants as fed
use Rattle.trace.specs.Trace.{trace}
use Rattle.trace.specs.Stages.{pipe, stages_of}
use Rattle.trace.specs.Sinks.{IsFed}
use Rattle.trace.proofs.feeding.feed_all.Given as goal

abbrev pub invariant-loop-position : goal.invariant-loop-position
invariant-loop-position g l = (g.S.LongSink.flow l.sink ≡ flow.More)
    × ((xs : List Item) → g.S.LongSink.has_taken l.initial.sink xs
    → IsFed g.S.LongSink.has_taken xs
    (pipe l.first_stage (stages_of l.stages) l.env
    (trace (take l.position (g.I.SourceItems.items l.source)) end.Done)) (Ok fed.More) l.sink)
