use Rattle.std.proofs.Common.{◌≡◌, drop}
use Rattle.job_language.specs.Jobs.{jobs_of}
use Rattle.job_meaning.specs.FileAnswers.{found}
use Rattle.report_merge.specs.Possible.{named_answers}
use Rattle.report_merge.proofs.PossibleLemmas.{found_after}
use Rattle.report_merge.proofs.possible.unusable_named.Given as goal

-- none of the jobs so far has the name
abbrev pub invariant-loop-place : goal.invariant-loop-place
invariant-loop-place l =
    found_after l.place (found (named_answers (jobs_of (drop l.place l.jobs)) (drop l.place l.answers)) l.name)
    ≡ found (named_answers (jobs_of l.jobs) l.answers) l.name
