use Rattle.std.proofs.Common.{length}
use Rattle.job_plan.proofs.source.+feed_plain.Given as goal

abbrev pub decreases-feed_plain : goal.decreases-feed_plain
decreases-feed_plain g l = length l.sources.now
