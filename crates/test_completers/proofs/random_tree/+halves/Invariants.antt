use Rattle.std.proofs.Common.{◌+◌, ◌*◌}
use Rattle.test_completers.proofs.random_tree.+halves.Given as goal

abbrev pub decreases-on_threads : goal.decreases-on_threads
decreases-on_threads g l = 2 * l.levels + 1

abbrev pub decreases-join+arg2 : goal.decreases-join+arg2
decreases-join+arg2 g l = 2 * l.levels

abbrev pub decreases-join+arg3 : goal.decreases-join+arg3
decreases-join+arg3 g l = 2 * l.levels
