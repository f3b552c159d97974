use Rattle.std.proofs.Common.{◌∙◌, ◌≡◌, ◌+◌, Some, None, is_some, ap, sym, subst, suc, arith}
use Rattle.trace.specs.Trace.{Trace}
use Rattle.lambda_values.specs.Earlier.{Numbers}
use Rattle.job_plan.specs.Parts.{StandsFor}
use Rattle.job_language.specs.Jobs.{sources_of}
use Rattle.job_meaning.specs.Walks.{source_walk}
use Rattle.job_routes.specs.Legs.{AbstractSegment, left_after, leg_at, leg_in, outcome_of}
use Rattle.job_table.specs.PlanLegs.{given_at, search_at}
use Rattle.job_table.proofs.PlanParts.{goes_nowhere, goes_over, goes_over_left, search_given}
use Rattle.job_table.proofs.plan_parts.next_walk.Goals as goal

pub returns-in-Some-search_at : goal.returns-in-Some-search_at
returns-in-Some-search_at c = λ chain legs numbers before own stands.
    let leg = c.args.leg in
    let d = c.in-Some-search_at.side in
    let o = c.in-Some.outcome in
    let ends : (s : AbstractSegment) (t : Trace) → StandsFor s chain.numbers c.args.part t
    → o ≡ outcome_of s chain.numbers t =
    subst (λ (e : Numbers). (s : AbstractSegment) (t : Trace) → StandsFor s e c.args.part t → o ≡ outcome_of s e t)
    (sym numbers) (rw c.in-Some.is at c.in_ok-outcome.ensures.some) in
    let next : suc leg ≡ leg + 1 = omega arith in
    let search : search_at leg chain.legs ≡ Some d =
    ap (search_at leg) legs ∙ sym c.search_at.ensures ∙ c.in-Some-search_at.is in
    let at : leg_in c.leg.result.now ≡ leg_at leg chain.legs = c.leg.ensures ∙ ap (leg_at leg) (sym legs) in
    let given : source_walk (sources_of c.deref.result.now) ≡ given_at chain leg =
    ap (λ ss. source_walk (sources_of ss)) c.deref.ensures.value ∙ sym (own (ap is_some search))
    ∙ sym (search_given chain leg d search) in
    c.searched.ensures ∙ (λ i. left_after d (at i) (c.answer-answer.ensures i) (given i))
    ∙ goes_over_left chain leg c.args.part d o ends before search stands ∙ ap (given_at chain) next

pub returns-in-None : goal.returns-in-None
returns-in-None c = λ chain legs numbers before own stands.
    let leg = c.args.leg in
    let o = c.in-Some.outcome in
    let ends : (s : AbstractSegment) (t : Trace) → StandsFor s chain.numbers c.args.part t
    → o ≡ outcome_of s chain.numbers t =
    subst (λ (e : Numbers). (s : AbstractSegment) (t : Trace) → StandsFor s e c.args.part t → o ≡ outcome_of s e t)
    (sym numbers) (rw c.in-Some.is at c.in_ok-outcome.ensures.some) in
    let next : suc leg ≡ leg + 1 = omega arith in
    let none : search_at leg chain.legs ≡ None = ap (search_at leg) legs ∙ sym c.search_at.ensures ∙ c.in-None.is in
    c.walk-in-None-2.ensures ∙ c.walk-in-None.ensures ∙ goes_over chain leg c.args.part o ends before none stands
    ∙ ap (given_at chain) next

pub returns-in_default : goal.returns-in_default
returns-in_default c = λ chain legs numbers before own stands.
    let next : suc c.args.leg ≡ c.args.leg + 1 = omega arith in
    c.walk.ensures ∙ c.ended.ensures
    ∙ goes_nowhere chain c.args.leg c.args.part before stands (rw c.in_default.is at c.in_ok-outcome.ensures.none)
    ∙ ap (given_at chain) next
