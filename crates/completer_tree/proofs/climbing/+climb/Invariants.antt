use Rattle.completer_tree.proofs.ClimbLemmas.{height}
use Rattle.completer_tree.proofs.climbing.+climb.Given as goal

abbrev pub decreases-climb : goal.decreases-climb
decreases-climb g l = height l.finisher.finish.kept.parent (g.C.Continuation.goes_to l.finisher.finish.kept.run)
