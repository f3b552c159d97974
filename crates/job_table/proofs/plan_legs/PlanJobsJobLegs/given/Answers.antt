use Rattle.std.proofs.Common.{List, ap, ◌∙◌, sym}
use Rattle.job_plan.specs.declared.plan.Named.{Named}
use Rattle.job_meaning.specs.FileAnswers.{first_unusable}
use Rattle.job_plan.specs.Plans.{jobs_at, plan_in, plans_in}
use Rattle.job_table.specs.PlanLegs.{answers_before}
use Rattle.job_table.proofs.PlannedAnswers.{known_of}
use Rattle.job_table.proofs.plan_legs.PlanJobsJobLegs.given.Goals as goal

pub returns-in-Err : goal.returns-in-Err
returns-in-Err g c =
    let plans = plans_in g.P.PlanBrand.jobs in
    known_of plans c.args.job (plan_in c.job-plan.result.now) c.job-plan.ensures c.in-Err.unusable c.requires.job
    (ap (λ (ns : List Named). first_unusable (jobs_at (answers_before plans c.args.job) ns)) (sym c.deref.ensures.value)
    ∙ rw c.in-Err.is at c.in_ok-given.ensures.unusable)
