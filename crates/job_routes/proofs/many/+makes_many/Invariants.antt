use Rattle.std.proofs.Common.{length}
use Rattle.job_routes.proofs.many.+makes_many.Given as goal

abbrev pub decreases-makes_many : goal.decreases-makes_many
decreases-makes_many l = length l.stages.now
