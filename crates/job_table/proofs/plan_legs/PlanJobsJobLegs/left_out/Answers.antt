use Rattle.std.proofs.Common.{◌∙◌, ap, subst}
use Rattle.lambda_values.specs.Earlier.{Numbers}
use Rattle.trace.specs.Trace.{nothing}
use Rattle.job_plan.specs.Plans.{plans_in, AbstractPlan}
use Rattle.job_plan.specs.Parts.{StandsFor}
use Rattle.job_routes.specs.Legs.{AbstractLeg, leg_at}
use Rattle.job_table.specs.PlanLegs.{chain_at}
use Rattle.job_table.proofs.PlanParts.{left_stands}
use Rattle.job_table.proofs.plan_legs.PlanJobsJobLegs.left_out.Goals as goal

pub returns : goal.returns
returns g c =
    let piece = c.args.piece in
    let chain = chain_at (plans_in g.P.PlanBrand.jobs) piece.job in
    let leg = c.leg.ensures ∙ ap (λ (p : AbstractPlan). leg_at piece.leg p.legs) c.job.ensures in
    left_stands chain piece.leg piece.from piece.to c.unwalked.result c.requires.decided.0 c.requires.decided.1
    c.requires.decided.2
    (subst (λ (e : Numbers). StandsFor (leg_at piece.leg chain.legs).last e c.unwalked.result nothing)
    c.requires.given.1
    (subst (λ (l : AbstractLeg). StandsFor l.last c.args.given.now c.unwalked.result nothing) leg
    c.unwalked.ensures.stands))
