use Rattle.pending_count.specs.Seats.{view_of}
use Rattle.test_completers.specs.RandomTrees.{Has, CanClimb}
use Rattle.test_completers.proofs.random_tree.hand_over.Given as goal

abbrev pub invariant-loop-node : goal.invariant-loop-node
invariant-loop-node l = CanClimb l.counts l.from l.middle l.rest × Has l.node l.to (view_of l.rest)
    × CanClimb l.counts l.middle l.node l.part
