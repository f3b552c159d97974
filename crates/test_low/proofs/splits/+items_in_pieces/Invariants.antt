use Rattle.std.proofs.Common.{length}
use Rattle.test_low.proofs.splits.+items_in_pieces.Given as goal

abbrev pub decreases-items_in_pieces : goal.decreases-items_in_pieces
decreases-items_in_pieces g l = length (g.S.LongSpliterator.items l.split)

abbrev pub decreases-loop-item : goal.decreases-loop-item
decreases-loop-item g l = length (g.S.LongSpliterator.items l.split)
