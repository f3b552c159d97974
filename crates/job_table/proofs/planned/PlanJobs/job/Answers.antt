use Rattle.std.proofs.Common.{◌∙◌, ◌≡◌, ap, arith, length, List, rules}
use Rattle.job_plan.specs.declared.plan.JobPlan.{JobPlan}
use Rattle.job_plan.specs.Plans.{plans_in}
use Rattle.job_table.specs.PlanLegs.{plan_at}
use Rattle.job_table.proofs.PlanParts.{job_within, plan_got}
use Rattle.job_table.proofs.planned.PlanJobs.job.Goals as goal

pub index-requires : goal.index-requires
index-requires g c =
    let jobs = c.args.self.now.plan.now.jobs in
    let low = job_within jobs.items g.P.PlanBrand.jobs c.args.job c.args.self.now.planned c.requires in
    let all : jobs.len ≡ length jobs.items = search rules in
    omega (arith, low, all)

pub returns : goal.returns
returns g c =
    let js = c.args.self.now.plan.now.jobs.items in
    let same : js ≡ g.P.PlanBrand.jobs = c.args.self.now.planned in
    plan_got js c.args.job c.index.result.now (job_within js g.P.PlanBrand.jobs c.args.job same c.requires)
    c.index.ensures ∙ ap (λ (xs : List JobPlan). plan_at (plans_in xs) c.args.job) same
