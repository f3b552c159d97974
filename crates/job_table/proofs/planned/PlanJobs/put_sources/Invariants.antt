use Rattle.std.proofs.Common.{◌≡◌, ◌++◌, drop}
use Rattle.job_language.specs.Jobs.{sources_of}
use Rattle.job_meaning.specs.FileAnswers.{all_put_in}
use Rattle.job_plan.specs.Plans.{jobs_at, plans_in}
use Rattle.job_table.specs.PlanLegs.{answers_before}
use Rattle.job_table.proofs.planned.PlanJobs.put_sources.Given as goal

-- the sources so far, and those that are left
abbrev pub invariant-loop-source : goal.invariant-loop-source
invariant-loop-source g l =
    sources_of l.sources.items ++ all_put_in
    (jobs_at (answers_before (plans_in g.P.PlanBrand.jobs) l.job) l.plan.named.items)
    (sources_of (drop l.source-index l.source-items))
    ≡ all_put_in (jobs_at (answers_before (plans_in g.P.PlanBrand.jobs) l.job) l.plan.named.items)
    (sources_of l.plan.sources.items)
