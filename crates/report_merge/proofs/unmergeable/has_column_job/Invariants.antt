use Rattle.std.proofs.Common.{◌≡◌, drop}
use Rattle.job_language.specs.Jobs.{jobs_of}
use Rattle.report_merge.specs.Mergeable.{has_column_job}
use Rattle.report_merge.proofs.unmergeable.has_column_job.Given as goal

-- none of the names so far
abbrev pub invariant-loop-name : goal.invariant-loop-name
invariant-loop-name l = has_column_job (jobs_of l.jobs) (drop l.name-index l.names)
    ≡ has_column_job (jobs_of l.jobs) l.names
