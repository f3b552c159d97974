use Rattle.std.proofs.Common.{◌≡◌, ◌++◌, drop}
use Rattle.lambda_values.specs.Earlier.{table_in}
use Rattle.job_meaning.specs.FileAnswers.{first_unusable, numbers_of}
use Rattle.job_plan.specs.Plans.{jobs_at, plans_in}
use Rattle.job_table.specs.PlanLegs.{answers_before}
use Rattle.job_table.proofs.planned.PlanJobs.numbers.Given as goal

-- none so far is unusable; the table; the numbers so far, and those of the jobs that are left
abbrev pub invariant-loop-name : goal.invariant-loop-name
invariant-loop-name g l =
    (first_unusable (jobs_at (answers_before (plans_in g.P.PlanBrand.jobs) l.job) (drop l.name-index l.named))
    ≡ first_unusable (jobs_at (answers_before (plans_in g.P.PlanBrand.jobs) l.job) l.named))
    × (l.numbers.table ≡ table_in l.table)
    × (l.numbers.earlier ++ numbers_of (jobs_at (answers_before (plans_in g.P.PlanBrand.jobs) l.job)
    (drop l.name-index l.named)) ≡ numbers_of
    (jobs_at (answers_before (plans_in g.P.PlanBrand.jobs) l.job) l.named))
