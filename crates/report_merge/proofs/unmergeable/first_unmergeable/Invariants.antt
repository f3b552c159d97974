use Rattle.std.proofs.Common.{◌≡◌, drop, take}
use Rattle.job_language.specs.Jobs.{jobs_of}
use Rattle.report_merge.specs.Mergeable.{first_unmergeable, unmergeable_below}
use Rattle.report_merge.proofs.unmergeable.first_unmergeable.Given as goal

-- each job so far can be merged
abbrev pub invariant-loop-place : goal.invariant-loop-place
invariant-loop-place l = unmergeable_below l.place (jobs_of (take l.place l.jobs)) (jobs_of (drop l.place l.jobs))
    ≡ first_unmergeable (jobs_of l.jobs)
