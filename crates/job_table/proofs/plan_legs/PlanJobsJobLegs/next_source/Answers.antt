use Rattle.std.proofs.Common.{◌≡◌, ◌∙◌, ◌+◌, ap, refl, sym}
use Rattle.job_language.specs.Jobs.{sources_of}
use Rattle.job_routes.specs.Legs.{leg_in, leg_at}
use Rattle.job_plan.specs.Plans.{plan_in, plans_in}
use Rattle.job_plan.specs.Parts.{walk_in}
use Rattle.job_table.specs.PlanLegs.{chain_at, given_at, positions_of}
use Rattle.job_table.proofs.PlannedAnswers.{legs_there, search_own}
use Rattle.job_table.proofs.plan_legs.PlanJobsJobLegs.next_source.Goals as goal

pub returns-clause-source : goal.returns-clause-source
returns-clause-source g c =
    let plans = plans_in g.P.PlanBrand.jobs in
    let job = c.args.job in
    let plan = c.job-2.result.now in
    c.in_ok-source.ensures (chain_at plans job) (legs_there plans job (plan_in plan) c.job-2.ensures)
    (sym c.requires.given.1) c.requires.leg
    (search_own plans job (plan_in plan) c.job-2.ensures (sources_of plan.sources.items) plan.search c.args.leg refl
    refl
    plan.own) c.requires.part

pub returns-clause-size : goal.returns-clause-size
returns-clause-size g c =
    let plans = plans_in g.P.PlanBrand.jobs in
    let job = c.args.job in
    let plan = c.job-2.result.now in
    let chain = chain_at plans job in
    let next = c.args.leg + 1 in
    let leg : leg_in c.leg-next.result.now ≡ leg_at next chain.legs =
    c.leg-next.ensures ∙ ap (leg_at next) (sym (legs_there plans job (plan_in c.job.result.now) c.job.ensures)) in
    let given : walk_in c.of_given.result ≡ given_at chain next =
    c.of_given.ensures
    ∙ c.in_ok-source.ensures chain (legs_there plans job (plan_in plan) c.job-2.ensures) (sym c.requires.given.1)
    c.requires.leg
    (search_own plans job (plan_in plan) c.job-2.ensures (sources_of plan.sources.items) plan.search c.args.leg refl
    refl
    plan.own) c.requires.part in
    c.positions-size.ensures ∙ (λ i. positions_of (leg i) (given i))
