use Rattle.std.proofs.Common.{◌≡◌, ◌-◌, ◌≤◌, List, length, take, Ok}
use Rattle.lambda_values.specs.declared.item.Item.{Item}
use Rattle.trace.specs.declared.item.End.TheVariants as end
use Rattle.batch_eval.specs.BatchItems.{batch_items}
use Rattle.trace.specs.declared.sink.Flow.TheVariants as flow
use Rattle.trace.specs.declared.feeding.Fed.TheVariants as fed
use Rattle.trace.specs.Trace.{trace}
use Rattle.trace.specs.Stages.{stages_of}
use Rattle.trace.specs.Sinks.{IsFed}
use Rattle.batch_eval.specs.Pipelines.{piped}
use Rattle.batch_eval.specs.Rooms.{FitsStages}
use Rattle.batch_eval.proofs.feeding.feed_pieces.Given as goal

abbrev pub invariant-loop-position : goal.invariant-loop-position
invariant-loop-position g l =
    record {
      within : l.position ≤ l.count;
      some : 1 ≤ l.size;
      few : l.size ≤ 1024;
      room : FitsStages (stages_of l.line.stages.now) (length l.space.room.items);
      wants : g.S.LongSink.flow l.sink ≡ flow.More;
      fed : (xs : List Item) → g.S.LongSink.has_taken l.initial.sink xs
          → IsFed g.S.LongSink.has_taken xs (piped l.line (trace (take l.position (batch_items l.items)) end.Done))
          (Ok fed.More) l.sink;
    }

abbrev pub decreases-loop-position : goal.decreases-loop-position
decreases-loop-position g l = l.count - l.position
