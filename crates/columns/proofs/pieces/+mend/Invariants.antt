use Rattle.std.proofs.Common.{length}
use Rattle.columns.proofs.pieces.+mend.Given as goal

abbrev pub decreases-mend : goal.decreases-mend
decreases-mend l = length l.pieces.now
