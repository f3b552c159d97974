use Rattle.std.proofs.Common.{ℕ, ◌≡◌, ◌∙◌, ap, sym, subst, IfOk, Ok, Result}
use Rattle.job_meaning.specs.declared.answer.Answer.{Answer}
use Rattle.job_plan.specs.Plans.{plan_in, plans_in}
use Rattle.job_table.specs.PlanLegs.{PartStands, answer_of, chain_at, last_leg, size_at}
use Rattle.job_table.proofs.PlannedAnswers.{answered, legs_there}
use Rattle.job_table.proofs.plan_legs.PlanJobsJobLegs.answer.Goals as goal

pub returns-in-Some : goal.returns-in-Some
returns-in-Some g c =
    let plans = plans_in g.P.PlanBrand.jobs in
    let taken = c.requires.given in
    let found : Result Answer (Unit {0}) = Ok c.in-Some.answer in
    let is : c.in-Some.answer ≡ answer_of plans c.args.job =
    answered plans c.args.job (plan_in c.job-plan.result.now) c.job-plan.ensures c.args.input.given.now c.args.part
    found c.requires.job taken.0 taken.1 c.requires.part
    (rw c.in-Some.is at c.in_ok-answer.ensures.some) in
    subst (λ (a : Answer). IfOk c.for_later_jobs.result (λ (kept : Answer). kept ≡ a)) is c.for_later_jobs.ensures

pub returns : goal.returns
returns g c =
    let plans = plans_in g.P.PlanBrand.jobs in
    let job = c.args.job in
    let taken = c.requires.given in
    let chain = chain_at plans job in
    let plan = plan_in c.job-plan.result.now in
    let again = c.in_ok-again.again in
    let last = c.last_leg.result in
    let here : last ≡ last_leg chain.legs =
    c.last_leg.ensures ∙ ap last_leg (sym (legs_there plans job plan c.job-plan.ensures)) in
    let size : c.args.input.size ≡ size_at chain last = c.requires.size ∙ ap (size_at chain) (sym here) in
    let stands = subst (λ (n : ℕ). PartStands chain last 0 n again) size c.in_ok-again.ensures.stands in
    let found : Result Answer (Unit {0}) = Ok c.in-Some-2.answer in
    answered plans job plan c.job-plan.ensures c.args.input.given.now again found c.requires.job taken.0 taken.1
    (subst (λ (k : ℕ). PartStands chain k 0 (size_at chain k) again) here stands)
    (rw c.in-Some-2.is at c.in_ok-answer-2.ensures.some)
