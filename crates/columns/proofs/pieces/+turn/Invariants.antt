use Rattle.std.proofs.Common.{length}
use Rattle.columns.proofs.pieces.+turn.Given as goal

abbrev pub decreases-read_pieces : goal.decreases-read_pieces
decreases-read_pieces g l = length l.pieces.now

abbrev pub decreases-read_others : goal.decreases-read_others
decreases-read_others g l = length l.others.now
