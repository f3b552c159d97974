use Rattle.std.proofs.Common.{◌≡◌, drop}
use Rattle.job_meaning.specs.FileAnswers.{array_named}
use Rattle.job_plan.specs.Plans.{jobs_at, plans_in}
use Rattle.job_table.specs.PlanLegs.{answers_before}
use Rattle.job_table.proofs.planned.PlanJobs.array.Given as goal

-- none so far has the name
abbrev pub invariant-loop-other : goal.invariant-loop-other
invariant-loop-other g l =
    array_named (jobs_at (answers_before (plans_in g.P.PlanBrand.jobs) l.job) (drop l.other-index l.named)) l.name
    ≡ array_named (jobs_at (answers_before (plans_in g.P.PlanBrand.jobs) l.job) l.named) l.name
