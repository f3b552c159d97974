use Rattle.job_routes.specs.Legs.{segment_in}
use Rattle.job_plan.specs.Parts.{walk_in}
use Rattle.prefix_walks.specs.Pieces.{piece_of}
use Rattle.job_plan.proofs.EnoughLemmas.{whole_enough, none_enough}
use Rattle.job_plan.proofs.leaves.leaf_until.Goals as goal

pub returns-in-Some-clause-stands : goal.returns-in-Some-clause-stands
returns-in-Some-clause-stands g c =
    let stands = rw c.in-Some.is at c.in_ok-part.ensures.stands in
    whole_enough (segment_in c.args.leg.now.last) c.args.walked.env.now c.in-Some.part
    (g.W.Stop.decides c.args.stop.now) c.args.window.from
    (piece_of c.args.window.from c.args.window.to (walk_in c.args.walked.source)) (stands c.args.walked.env.now)

pub returns-in-Some-counted_part-clause-stands : goal.returns-in-Some-counted_part-clause-stands
returns-in-Some-counted_part-clause-stands g c =
    let stands = rw c.in-Some-counted_part.is at c.counted_part.ensures in
    whole_enough (segment_in c.args.leg.now.last) c.args.walked.env.now c.in-Some-counted_part.part
    (g.W.Stop.decides c.args.stop.now) c.args.window.from
    (piece_of c.args.window.from c.args.window.to (walk_in c.args.walked.source)) (stands c.args.walked.env.now)

pub returns-in-None-clause-stands : goal.returns-in-None-clause-stands
returns-in-None-clause-stands g c =
    let s = segment_in c.args.leg.now.last in
    let env = c.args.walked.env.now in
    none_enough s env c.unwalked.result (g.W.Stop.decides c.args.stop.now) c.args.window.from
    (piece_of c.args.window.from c.args.window.to (walk_in c.args.walked.source))
    (rw c.in-None.is at c.in_ok-part-2.ensures.left) c.unwalked.ensures.stands
