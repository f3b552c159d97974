use Rattle.std.proofs.Common.{length}
use Rattle.job_plan.proofs.named.+has_array.Given as goal

abbrev pub decreases-has_array : goal.decreases-has_array
decreases-has_array l = length l.sources.now
