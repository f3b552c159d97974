use Rattle.job_routes.specs.Legs.{leg_in, segment_in, linked}
use Rattle.job_plan.specs.Parts.{walk_in}
use Rattle.job_plan.proofs.PassageLemmas.{stands_after, if_ok_map}
use Rattle.job_plan.proofs.streaming.streamed.Goals as goal

pub returns-clause-stands : goal.returns-clause-stands
returns-clause-stands c =
    let leg = c.args.leg.now in
    let env = c.args.walked.env.now in
    if_ok_map _ _ c.nested.result
    (λ part on. stands_after (segment_in leg.last) env c.first-none.result part
    (linked (leg_in leg).links env (walk_in c.args.walked.source)) c.first-none.ensures.stands on)
    c.nested.ensures
