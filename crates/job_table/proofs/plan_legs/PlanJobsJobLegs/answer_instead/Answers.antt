use Rattle.std.proofs.Common.{◌≡◌, ◌∙◌, ap, sym, Option, Some, None}
use Rattle.std.specs.Option.{option_map}
use Rattle.job_routes.specs.declared.fallback.Fallback.{Fallback}
use Rattle.job_plan.specs.Plans.{plans_in, AbstractPlan}
use Rattle.job_routes.specs.Legs.{fallback_in}
use Rattle.job_table.specs.PlanLegs.{plan_at}
use Rattle.job_table.proofs.PlanFaults.{caught_answer, nothing_caught}
use Rattle.job_table.proofs.plan_legs.PlanJobsJobLegs.answer_instead.Goals as goal

pub returns : goal.returns
returns g c =
    let plans = plans_in g.P.PlanBrand.jobs in
    let h = c.requires.caught in
    let gives : (plan_at plans c.args.job).fallback ≡ Some (fallback_in c.in-Some.instead) =
    sym (ap (λ (q : AbstractPlan). q.fallback) c.job.ensures)
    ∙ ap (λ (o : Option Fallback). option_map fallback_in o) c.in-Some.is in
    c.answer.ensures ∙ caught_answer plans c.args.job h.0 h.1 (fallback_in c.in-Some.instead) gives h.2

pub unreachable-requires : goal.unreachable-requires
unreachable-requires g c =
    let plans = plans_in g.P.PlanBrand.jobs in
    let h = c.requires.caught in
    let none : (plan_at plans c.args.job).fallback ≡ None =
    sym (ap (λ (q : AbstractPlan). q.fallback) c.job.ensures)
    ∙ ap (λ (o : Option Fallback). option_map fallback_in o) c.in-None.is in
    nothing_caught plans c.args.job h.0 h.1 none h.2
