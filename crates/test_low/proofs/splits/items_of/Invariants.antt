use Rattle.std.proofs.Common.{length}
use Rattle.test_low.proofs.splits.items_of.Given as goal

abbrev pub decreases-loop-item : goal.decreases-loop-item
decreases-loop-item g l = length (g.S.LongSpliterator.items l.split)
