use Rattle.std.proofs.Common.{◌∙◌, sym}
use Rattle.job_plan.specs.Plans.{plans_in}
use Rattle.job_table.specs.PlanLegs.{chain_at}
use Rattle.job_plan.proofs.PartLemmas.{settled_there}
use Rattle.job_table.proofs.PlanParts.{part_decides}
use Rattle.job_table.proofs.plan_legs.PlanJobsJobLegs.is_settled.Goals as goal

pub returns : goal.returns
returns g c = λ yes.
    let both = settled_there c.args.piece.from c.args.part.now (sym c.settles.ensures ∙ yes) in
    part_decides (chain_at (plans_in g.P.PlanBrand.jobs) c.args.piece.job) c.args.piece.leg c.args.piece.from
    c.args.piece.to c.args.part.now c.requires.within.0 c.requires.within.1 both.0 both.1 c.requires.part
