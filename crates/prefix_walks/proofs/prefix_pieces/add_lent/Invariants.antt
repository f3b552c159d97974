use Rattle.std.proofs.Common.{◌≡◌, ◌≤◌, ◌++◌, ◌-◌, All, take}
use Rattle.trace.specs.Stages.{stages_of}
use Rattle.batch_eval.specs.Faultless.{left_by}
use Rattle.batch_eval.specs.BatchItems.{batch_items}
use Rattle.prefix_walks.specs.Scans.{IsFolded, all_items}
use Rattle.prefix_walks.proofs.prefix_pieces.add_lent.Given as goal

abbrev pub invariant-loop-taken : goal.invariant-loop-taken
invariant-loop-taken l = (all_items l.pieces.items
    ≡ all_items l.fn.pieces.items ++ left_by (stages_of l.cheap.stages.now) (take l.taken (batch_items l.lent)))
    × All (IsFolded l.op) l.pieces.items
    × (l.taken ≤ l.size)

abbrev pub decreases-loop-taken : goal.decreases-loop-taken
decreases-loop-taken l = l.size - l.taken
