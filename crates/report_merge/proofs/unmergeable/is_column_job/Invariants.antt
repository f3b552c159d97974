use Rattle.std.proofs.Common.{◌≡◌, drop}
use Rattle.job_language.specs.Jobs.{jobs_of}
use Rattle.report_merge.specs.Mergeable.{is_column_job}
use Rattle.report_merge.proofs.unmergeable.is_column_job.Given as goal

-- none of the jobs so far
abbrev pub invariant-loop-job : goal.invariant-loop-job
invariant-loop-job l = is_column_job (jobs_of (drop l.job-index l.jobs)) l.name ≡ is_column_job (jobs_of l.jobs) l.name
