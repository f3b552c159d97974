use Rattle.std.proofs.Common.{◌≡◌, List, ◌++◌}
use Rattle.lambda_values.specs.declared.item.Item.{Item}
use Rattle.trace.specs.declared.sink.Flow.TheVariants as flow
use Rattle.batch_eval.specs.Batches.{holds}
use Rattle.batch_eval.specs.LaneValues.{value_at}
use Rattle.batch_eval.proofs.FlaggedLemmas.{front}
use Rattle.batch_eval.proofs.flagged.accept_each_flagged.Given as goal

abbrev pub invariant-loop-lane : goal.invariant-loop-lane
invariant-loop-lane g l =
    record {
      wants : g.S.LongSink.flow l.sink ≡ flow.More;
      taken : (xs : List Item) → g.S.LongSink.has_taken l.initial.sink xs
          → g.S.LongSink.has_taken l.sink
          (xs ++ front (holds l.lanes.set) l.lanes.start l.lanes.origins.now (value_at l.lanes.values) l.lanes.flags.now
          l.lane);
    }
