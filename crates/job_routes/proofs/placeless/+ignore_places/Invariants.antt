use Rattle.std.proofs.Common.{length}
use Rattle.job_routes.proofs.placeless.+ignore_places.Given as goal

abbrev pub decreases-ignore_places : goal.decreases-ignore_places
decreases-ignore_places l = length l.stages.now
