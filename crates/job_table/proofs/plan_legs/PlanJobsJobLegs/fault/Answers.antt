use Rattle.std.proofs.Common.{◌≡◌, ◌∙◌, true, false, sym}
use Rattle.job_plan.specs.Plans.{plan_in, plans_in}
use Rattle.job_table.proofs.PlanFaults.{catches_it, caught_there}
use Rattle.job_table.proofs.plan_legs.PlanJobsJobLegs.fault.Goals as goal

pub returns-then-catches-clause-among : goal.returns-then-catches-clause-among
returns-then-catches-clause-among g c =
    let yes = c.if-catches.true in
    caught_there (plans_in g.P.PlanBrand.jobs) c.args.piece.job c.args.piece.leg (plan_in c.job.result.now)
    c.args.part.now c.fold_fault.result c.requires.given.0 c.job.ensures
    (c.catches.ensures.instead yes) (c.catches.ensures.last yes) c.fold_fault.ensures

pub returns-then-catches-clause-caught : goal.returns-then-catches-clause-caught
returns-then-catches-clause-caught g c = λ fault caught. c.fold_fault.ensures ∙ caught.fault

pub returns-else-catches-clause-caught : goal.returns-else-catches-clause-caught
returns-else-catches-clause-caught g c = λ fault caught.
    let it = catches_it (plans_in g.P.PlanBrand.jobs) c.args.piece.job c.args.piece.leg c.args.part.now fault
    (plan_in c.job.result.now) c.job.ensures caught in
    absurd (let z : false ≡ true = sym c.if-catches.false ∙ c.catches.ensures.all it.0 it.1 in cc)
