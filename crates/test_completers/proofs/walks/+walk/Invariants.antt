use Rattle.std.proofs.Common.{◌+◌, ◌*◌}
use Rattle.test_completers.specs.Halves.{size_of}
use Rattle.test_completers.proofs.walks.+walk.Given as goal

abbrev pub decreases-walk : goal.decreases-walk
decreases-walk g l = 2 * size_of l.half.place + 1

abbrev pub decreases-join+arg2 : goal.decreases-join+arg2
decreases-join+arg2 g l = 2 * size_of l.left.place + 2

abbrev pub decreases-join+arg3 : goal.decreases-join+arg3
decreases-join+arg3 g l = 2 * size_of l.right.place + 2
