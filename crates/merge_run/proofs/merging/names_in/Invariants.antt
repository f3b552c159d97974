use Rattle.std.proofs.Common.{◌≡◌, ◌++◌, drop}
use Rattle.job_language.specs.Jobs.{jobs_of, names_of}
use Rattle.merge_run.proofs.merging.names_in.Given as goal

abbrev pub invariant-loop-job : goal.invariant-loop-job
invariant-loop-job l = l.names.items ++ names_of (jobs_of (drop l.job-index l.jobs)) ≡ names_of (jobs_of l.jobs)
