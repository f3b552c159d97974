use Rattle.completion_core.specs.Book.{held_in}
use Rattle.completion_core.specs.Bags.{HoldsUpTo}
use Rattle.completion_core.proofs.graph.Graph.holds_all.Given as goal

abbrev pub invariant-loop-node : goal.invariant-loop-node
invariant-loop-node l = HoldsUpTo l.nodes (λ i. held_in l.self.holdings l.actor i) l.node-index l.alike l.before
