use Rattle.std.proofs.Common.{length}
use Rattle.job_plan.proofs.sources.+total_size.Given as goal

abbrev pub decreases-total_size : goal.decreases-total_size
decreases-total_size l = length l.sources.now
