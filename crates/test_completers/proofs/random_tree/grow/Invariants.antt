use Rattle.std.proofs.Common.{◌≡◌, ◌-◌}
use Rattle.pending_count.specs.Seats.{view_of, table_of}
use Rattle.test_completers.specs.RandomTrees.{Knows, Has}
use Rattle.test_completers.proofs.random_tree.grow.Given as goal

abbrev pub invariant-loop-node : goal.invariant-loop-node
invariant-loop-node l = (table_of l.seat ≡ l.counts.table.shared.table_id) × Knows (l.node - 1) (view_of l.seat)
    × Has 1 l.node (view_of l.seat)
