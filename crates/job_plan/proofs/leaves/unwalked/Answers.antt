use Rattle.job_routes.specs.Legs.{segment_in}
use Rattle.job_plan.proofs.PartLemmas.{none_stands}
use Rattle.job_plan.proofs.leaves.unwalked.Goals as goal

pub returns-clause-stands : goal.returns-clause-stands
returns-clause-stands c = none_stands (segment_in c.args.leg.now.last) c.args.env.now c.none.result
    c.none.ensures.stands
