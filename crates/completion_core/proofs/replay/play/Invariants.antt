use Rattle.completion_core.specs.Graph.{start}
use Rattle.completion_core.specs.Played.{PlayedUpTo}
use Rattle.completion_core.proofs.replay.play.Given as goal

abbrev pub invariant-loop-index : goal.invariant-loop-index
invariant-loop-index l = PlayedUpTo l.actions (start l.nodes l.ends) l.index l.graph l.runs.items
