use Rattle.std.proofs.Common.{length}
use Rattle.job_routes.proofs.copies.+add_copies.Given as goal

abbrev pub decreases-add_copies : goal.decreases-add_copies
decreases-add_copies l = length l.from.now
