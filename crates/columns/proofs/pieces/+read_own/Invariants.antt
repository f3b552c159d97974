use Rattle.std.proofs.Common.{length}
use Rattle.columns.proofs.pieces.+read_own.Given as goal

abbrev pub decreases-read_own : goal.decreases-read_own
decreases-read_own l = length l.pieces.now
