use Rattle.std.proofs.Common.{◌≡◌, length}
use Rattle.job_runner.proofs.places.places_of_job.Given as goal

abbrev pub invariant-loop-leg : goal.invariant-loop-leg
invariant-loop-leg g l = length l.sources.items ≡ l._leg
