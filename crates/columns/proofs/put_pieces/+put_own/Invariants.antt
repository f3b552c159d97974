use Rattle.std.proofs.Common.{length}
use Rattle.columns.proofs.put_pieces.+put_own.Given as goal

abbrev pub decreases-put_own : goal.decreases-put_own
decreases-put_own l = length l.columns.now
