use Rattle.std.proofs.Common.{length}
use Rattle.report.proofs.by_threads.+texts.Given as goal

abbrev pub decreases-texts_of : goal.decreases-texts_of
decreases-texts_of g l = length l.groups.now

abbrev pub decreases-write_before : goal.decreases-write_before
decreases-write_before g l = length l.before.now
