use Rattle.job_plan.specs.Plans.{plans_in}
use Rattle.job_table.specs.PlanLegs.{chain_at}
use Rattle.job_table.proofs.PlanParts.{merged}
use Rattle.job_table.proofs.plan_legs.PlanJobsJobLegs.merge.Goals as goal

pub returns-in-Ok : goal.returns-in-Ok
returns-in-Ok g c =
    let cut = c.args._cut in
    merged (chain_at (plans_in g.P.PlanBrand.jobs) cut.job) cut.leg cut.from cut.middle cut.to c.args.left c.args.right
    c.in-Ok.part c.requires.within.0 c.requires.within.1 c.requires.piece.within c.requires.left c.requires.right
    c.in-Ok.ensures.ok
