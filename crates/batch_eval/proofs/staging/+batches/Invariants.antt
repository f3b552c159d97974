use Rattle.std.proofs.Common.{◌≡◌, ◌+◌, ◌*◌, ◌-◌, ◌≤◌, ◌++◌, List, length, take}
use Rattle.lambda_values.specs.Streams.{inner_of}
use Rattle.lambda_values.specs.declared.item.Item.{Item}
use Rattle.trace.specs.declared.item.End.TheVariants as end
use Rattle.trace.specs.declared.sink.Flow.TheVariants as flow
use Rattle.trace.specs.Trace.{each}
use Rattle.trace.specs.Stages.{flat_map, of_item, stages_of}
use Rattle.batch_eval.specs.Pours.{Holds, inner_items}
use Rattle.batch_eval.specs.Rooms.{FitsStages}
use Rattle.batch_eval.proofs.staging.+batches.Given as goal

abbrev pub decreases-feed_batch : goal.decreases-feed_batch
decreases-feed_batch g l = 6 * length l.line.stages.now

abbrev pub decreases-make_space : goal.decreases-make_space
decreases-make_space g l = 6 * length l.line.stages.now + 1

abbrev pub decreases-finish : goal.decreases-finish
decreases-finish g l = 6 * length l.line.stages.now + 1

abbrev pub decreases-pour_lanes : goal.decreases-pour_lanes
decreases-pour_lanes g l = 6 * length l.line.stages.now + 2

abbrev pub decreases-pour : goal.decreases-pour
decreases-pour g l = 6 * length l.line.stages.now + 4

abbrev pub decreases-feed_inner : goal.decreases-feed_inner
decreases-feed_inner g l = 6 * length l.stage.later.stages.now + 5

abbrev pub decreases-feed_inner-loop-position : goal.decreases-feed_inner-loop-position
decreases-feed_inner-loop-position g l = l.count - l.position

abbrev pub decreases-pour_lanes-loop-position : goal.decreases-pour_lanes-loop-position
decreases-pour_lanes-loop-position g l = l.count - l.position

abbrev pub invariant-pour_lanes-loop-position : goal.invariant-pour_lanes-loop-position
invariant-pour_lanes-loop-position g l =
    record {
      within : l.position ≤ l.count;
      room : FitsStages (stages_of l.line.stages.now) (length l.room);
      wants : g.S.LongSink.flow l.sink ≡ flow.More;
      held : (xs whole : List Item) → Holds g.S.LongSink.has_taken l.line xs whole l.initial.pending.items
          l.initial.sink → Holds g.S.LongSink.has_taken l.line xs
          (whole ++ take l.position (inner_items l.values))
          l.pending.items l.sink;
    }

abbrev pub invariant-feed_inner-loop-position : goal.invariant-feed_inner-loop-position
invariant-feed_inner-loop-position g l =
    record {
      room : FitsStages (stages_of l.stage.later.stages.now) (length l.room);
      wants : g.S.LongSink.flow l.sink ≡ flow.More;
      done : (each (of_item l.stage.number (flat_map (inner_of l.stage.inner.now)) l.stage.later.env.now)
          (take l.position l.batch.items) end.Done).ending ≡ end.Done;
      held : (xs : List Item) → g.S.LongSink.has_taken l.initial.sink xs
          → Holds g.S.LongSink.has_taken l.stage.later xs
          (each (of_item l.stage.number (flat_map (inner_of l.stage.inner.now)) l.stage.later.env.now)
          (take l.position l.batch.items) end.Done).items l.pending.items l.sink;
    }
