use Rattle.std.proofs.Common.{length}
use Rattle.job_plan.proofs.lent_part.+push_sources.Given as goal

abbrev pub decreases-push_sources : goal.decreases-push_sources
decreases-push_sources l = length l.sources.now
