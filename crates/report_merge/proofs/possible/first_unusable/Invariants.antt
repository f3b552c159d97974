use Rattle.std.proofs.Common.{◌≡◌, drop}
use Rattle.job_language.specs.Jobs.{jobs_of}
use Rattle.job_meaning.specs.FileAnswers.{first_unusable, jobs_found}
use Rattle.report_merge.specs.Possible.{named_answers}
use Rattle.report_merge.proofs.possible.first_unusable.Given as goal

-- the jobs with the names so far can be used
abbrev pub invariant-loop-name : goal.invariant-loop-name
invariant-loop-name l =
    first_unusable (jobs_found (named_answers (jobs_of l.jobs) l.answers) (drop l.name-index l.names))
    ≡ first_unusable (jobs_found (named_answers (jobs_of l.jobs) l.answers) l.names)
