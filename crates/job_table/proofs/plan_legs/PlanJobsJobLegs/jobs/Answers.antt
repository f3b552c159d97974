use Rattle.std.proofs.Common.{◌≡◌, ◌∙◌, ap, length, rules, sym}
use Rattle.job_table.proofs.PlanParts.{plans_length}
use Rattle.job_table.proofs.plan_legs.PlanJobsJobLegs.jobs.Goals as goal

pub returns : goal.returns
returns g c =
    let jobs = c.args.self.now.plan.now.jobs in
    let all : jobs.len ≡ length jobs.items = search rules in
    c.len.ensures ∙ all ∙ ap length c.args.self.now.planned ∙ sym (plans_length g.P.PlanBrand.jobs)
