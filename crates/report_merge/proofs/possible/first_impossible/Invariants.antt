use Rattle.std.proofs.Common.{◌≡◌, drop, take}
use Rattle.job_language.specs.Jobs.{jobs_of}
use Rattle.report_merge.specs.Merging.{part_of}
use Rattle.report_merge.specs.Possible.{first_impossible, impossible_below, named_answers}
use Rattle.report_merge.proofs.possible.first_impossible.Given as goal

-- each answer so far can be its job's
abbrev pub invariant-loop-place : goal.invariant-loop-place
invariant-loop-place l =
    impossible_below l.place (named_answers (jobs_of (take l.place l.jobs)) (take l.place l.part.answers.items))
    (jobs_of (drop l.place l.jobs)) l.part.rows (drop l.place l.part.answers.items)
    ≡ first_impossible (jobs_of l.jobs) (part_of l.part)
