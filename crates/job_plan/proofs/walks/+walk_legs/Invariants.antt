use Rattle.std.proofs.Common.{length}
use Rattle.job_plan.proofs.walks.+walk_legs.Given as goal

abbrev pub decreases-walk_legs : goal.decreases-walk_legs
decreases-walk_legs l = length l.scans.now
