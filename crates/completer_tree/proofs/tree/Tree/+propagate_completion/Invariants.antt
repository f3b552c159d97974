use Rattle.std.proofs.Common.{length}
use Rattle.completer_tree.proofs.tree.Tree.+propagate_completion.Given as goal

abbrev pub decreases-propagate_completion : goal.decreases-propagate_completion
decreases-propagate_completion g l = length l.path.now
