use Rattle.std.proofs.Common.{◌≡◌, ◌∙◌, ap, refl, sym, subst}
use Rattle.trace.specs.Trace.{Trace}
use Rattle.lambda_values.specs.Earlier.{Numbers}
use Rattle.job_plan.specs.Parts.{StandsFor}
use Rattle.job_plan.specs.Plans.{plan_in}
use Rattle.job_routes.specs.Legs.{AbstractSegment, outcome_of}
use Rattle.job_meaning.specs.Walks.{instead_of_fault}
use Rattle.job_table.specs.PlanLegs.{last_leg}
use Rattle.job_table.proofs.PlanParts.{last_answer}
use Rattle.job_table.proofs.plan_parts.job_answer.Goals as goal

pub returns-in-Some-clause-some : goal.returns-in-Some-clause-some
returns-in-Some-clause-some c = λ chain same numbers stands.
    let o = c.in-Some.outcome in
    let ends : (s : AbstractSegment) (t : Trace) → StandsFor s chain.numbers c.args.part t
    → o ≡ outcome_of s chain.numbers t =
    subst (λ (e : Numbers). (s : AbstractSegment) (t : Trace) → StandsFor s e c.args.part t → o ≡ outcome_of s e t)
    (sym numbers) (rw c.in-Some.is at c.in_ok-outcome.ensures.some) in
    c.without_fault.ensures
    ∙ ap (instead_of_fault (plan_in c.args.plan.now).fallback)
    (c.answer.ensures ∙ last_answer chain (last_leg chain.legs) c.args.part o ends refl stands)
