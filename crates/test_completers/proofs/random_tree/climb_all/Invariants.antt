use Rattle.test_completers.specs.RandomTrees.{CanClimb}
use Rattle.test_completers.proofs.random_tree.climb_all.Given as goal

abbrev pub invariant-loop-node : goal.invariant-loop-node
invariant-loop-node l = CanClimb l.counts l.node l.to l.seat
