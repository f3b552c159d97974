use Rattle.std.proofs.Common.{◌≡◌, ◌+◌, ◌≤◌, length}
use Rattle.batch_eval.specs.Batches.{flagged_values, holds}
use Rattle.batch_eval.specs.LaneValues.{value_at}
use Rattle.prefix_walks.proofs.folding.count_flagged.Given as goal

abbrev pub invariant-loop-lane : goal.invariant-loop-lane
invariant-loop-lane l =
    record {
      missed : l.missed + length (flagged_values (holds l.lanes.set) (value_at l.lanes.values) l.lanes.flags.now l.lane)
          ≡ l.lane;
      within : l.missed ≤ l.lane;
    }
