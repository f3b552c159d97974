use Rattle.std.proofs.Common.{◌≡◌, ◌+◌, ◌*◌, List, length, take, Ok}
use Rattle.lambda_values.specs.Streams.{run_or_listed}
use Rattle.lambda_values.specs.declared.item.Item.{Item}
use Rattle.trace.specs.declared.item.End.TheVariants as end
use Rattle.trace.specs.declared.sink.Flow.TheVariants as flow
use Rattle.trace.specs.declared.feeding.Fed.TheVariants as fed
use Rattle.trace.specs.Trace.{trace}
use Rattle.trace.specs.Stages.{at_place, pipe, stages_of}
use Rattle.trace.specs.Sinks.{IsFed}
use Rattle.trace.proofs.feeding.+feed.Given as goal

abbrev pub decreases-feed : goal.decreases-feed
decreases-feed g l = 2 * length l.stages.now

abbrev pub decreases-feed_inner : goal.decreases-feed_inner
decreases-feed_inner g l = 2 * length l.stages.now + 1

abbrev pub invariant-feed_inner-loop-position : goal.invariant-feed_inner-loop-position
invariant-feed_inner-loop-position g l = (g.S.LongSink.flow l.sink ≡ flow.More)
    × ((xs : List Item) → g.S.LongSink.has_taken l.initial.sink xs
    → IsFed g.S.LongSink.has_taken xs
    (pipe l.first_stage (stages_of l.stages) l.env
    (trace (take l.position (at_place l.values.origin (run_or_listed l.values.run l.values.listed.now))) end.Done))
    (Ok fed.More) l.sink)
