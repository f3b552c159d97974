use Rattle.std.proofs.Common.{◌∙◌, ap, sym}
use Rattle.job_language.specs.Jobs.{sources_of}
use Rattle.job_plan.specs.Plans.{jobs_at, plan_in, plans_in}
use Rattle.job_table.specs.PlanLegs.{answers_before, chain_at}
use Rattle.job_table.proofs.PlannedAnswers.{legs_there, put_walk}
use Rattle.job_table.proofs.planned.PlanJobs.part.Goals as goal

pub returns-in-Some-clause-stands : goal.returns-in-Some-clause-stands
returns-in-Some-clause-stands g c =
    let plans = plans_in g.P.PlanBrand.jobs in
    let job = c.args.piece.job in
    c.walked_piece.ensures.stands (chain_at plans job)
    (legs_there plans job (plan_in c.job-plan.result.now) c.job-plan.ensures) (sym c.requires.given.1)
    (c.of_given-source.ensures ∙ rw c.in-Some.is at c.requires.source) c.requires.piece.within c.requires.all
    c.requires.stop

pub returns-in_ok-sources-in-None-clause-stands : goal.returns-in_ok-sources-in-None-clause-stands
returns-in_ok-sources-in-None-clause-stands g c =
    let plans = plans_in g.P.PlanBrand.jobs in
    let job = c.args.piece.job in
    let first = rw c.in-None.is at c.requires.first in
    let put = ap sources_of c.deref.ensures.value ∙ c.in_ok-sources-in-None.ensures in
    c.walked_piece-in-None.ensures.stands (chain_at plans job)
    (legs_there plans job (plan_in c.job-plan.result.now) c.job-plan.ensures) (sym c.requires.given.1)
    (c.of_put-source.ensures ∙ put_walk plans job (plan_in c.own-own.result.now) c.own-own.ensures c.args.piece.leg
    (sources_of c.deref.result.now) first put) c.requires.piece.within c.requires.all c.requires.stop

pub returns-in-None-2-clause-stands : goal.returns-in-None-2-clause-stands
returns-in-None-2-clause-stands g c =
    let plans = plans_in g.P.PlanBrand.jobs in
    let job = c.args.piece.job in
    let p = plan_in c.job-plan.result.now in
    let first = rw c.in-None-2.is at c.requires.first in
    let none = ap sources_of c.deref-in-None-2.ensures.value
    ∙ sym (c.takes_arrays.ensures c.if-takes_arrays.false (jobs_at (answers_before plans job) p.named)) in
    c.walked_piece-in-None-2.ensures.stands (chain_at plans job) (legs_there plans job p c.job-plan.ensures)
    (sym c.requires.given.1)
    (c.of_sources-source.ensures ∙ put_walk plans job p c.job-plan.ensures c.args.piece.leg
    (sources_of c.deref-in-None-2.result.now) first none) c.requires.piece.within c.requires.all c.requires.stop
