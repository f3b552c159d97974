use Rattle.std.proofs.Common.{◌≡◌, drop, map}
use Rattle.job_language.specs.Causes.{given}
use Rattle.job_language.specs.Jobs.{jobs_of}
use Rattle.job_language.specs.Verdicts.{earlier_of}
use Rattle.job_language.proofs.scope.given.Given as goal

abbrev pub invariant-loop-job : goal.invariant-loop-job
invariant-loop-job l = given (map earlier_of (jobs_of l.jobs)) l.name
    ≡ given (map earlier_of (jobs_of (drop l.job-index l.jobs))) l.name
