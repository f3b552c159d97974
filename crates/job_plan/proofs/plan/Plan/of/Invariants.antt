use Rattle.std.proofs.Common.{◌≡◌, List, [], ◌++◌, length}
use Rattle.std.specs.Vec.Iter.{into_iter_items, into_iter_len}
use Rattle.job_language.specs.Jobs.{jobs_of}
use Rattle.job_plan.specs.Plans.{AreRoutes, plan_names, plans_in, AbstractPlan}
use Rattle.job_plan.proofs.plan.Plan.of.Given as goal

abbrev pub invariant-loop-job : goal.invariant-loop-job
invariant-loop-job l =
    (goal.iterator-loop-job).can_next l.job-iterator ×
    (goal.iterator-loop-job).is_finite l.job-iterator ×
    ((plans : List AbstractPlan) → AreRoutes (plan_names l.plans.items) plans (jobs_of (into_iter_items l.job-iterator))
    → AreRoutes [] (plans_in l.plans.items ++ plans) (jobs_of l.fn.jobs.items)) ×
    (into_iter_len l.job-iterator ≡ length (into_iter_items l.job-iterator))
