use Rattle.std.proofs.Common.{◌≡◌, ◌∙◌, sym}
use Rattle.job_routes.specs.Legs.{leg_in}
use Rattle.job_plan.specs.Parts.{walk_in}
use Rattle.job_table.specs.PlanLegs.{size_at}
use Rattle.job_table.proofs.PlanParts.{leg_over, one_piece, piece_stands, streamed_stands}
use Rattle.job_table.proofs.plan_parts.walked_piece.Goals as goal

pub returns-in_default-clause-stands : goal.returns-in_default-clause-stands
returns-in_default-clause-stands g c = λ chain legs numbers walks within all more.
    let k = c.args.piece.leg in
    let source = walk_in c.of_leg-source.result in
    let here = leg_over chain k legs c.leg-leg.ensures walks c.of_leg-source.ensures in
    streamed_stands chain k c.args.piece.from c.args.piece.to (leg_in c.leg-leg.result.now) c.streamed.result
    c.args.walked.env.now source here.0 (sym numbers) here.1 (rw c.in_default.is at all) c.streamed.ensures.stands

pub returns-then-not-streams-clause-stands : goal.returns-then-not-streams-clause-stands
returns-then-not-streams-clause-stands g c = λ chain legs numbers walks within all more.
    let k = c.args.piece.leg in
    let source = walk_in c.of_leg-source.result in
    let here = leg_over chain k legs c.leg-leg.ensures walks c.of_leg-source.ensures in
    piece_stands chain k c.args.piece.from c.args.piece.to (leg_in c.leg-leg.result.now) source c.args.walked.env.now
    c.end_of.result (g.W.Stop.decides c.in-Some.stop.now) c.leaf_until.result here.0
    (sym c.streams.ensures ∙ c.if-not-streams.true) (sym numbers) here.1
    c.end_of.ensures.end (rw c.in-Some.is at more) c.leaf_until.ensures.stands

pub returns-clause-stands : goal.returns-clause-stands
returns-clause-stands g c = λ chain legs numbers walks within all more.
    let piece = c.args.piece in
    let k = piece.leg in
    let leg = leg_in c.leg-leg.result.now in
    let source = walk_in c.of_leg-source.result in
    let here = leg_over chain k legs c.leg-leg.ensures walks c.of_leg-source.ensures in
    let whole : (piece.from ≡ 0) × (piece.to ≡ size_at chain k) =
    one_piece chain k piece.from piece.to leg here.0 (sym c.streams.ensures ∙ c.if-not-streams.false)
    c.requires.ordered within in
    streamed_stands chain k piece.from piece.to leg c.streamed-2.result c.args.walked.env.now source here.0
    (sym numbers) here.1 whole c.streamed-2.ensures.stands
