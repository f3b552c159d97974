use Rattle.std.proofs.Common.{length}
use Rattle.columns.proofs.put_pieces.+put.Given as goal

abbrev pub decreases-put_columns : goal.decreases-put_columns
decreases-put_columns g l = length l.columns.now

abbrev pub decreases-put_others : goal.decreases-put_others
decreases-put_others g l = length l.others.now
