use Rattle.std.proofs.Common.{None, sym, ap, ◌∙◌}
use Rattle.trace.specs.Trace.{Trace}
use Rattle.job_routes.specs.Legs.{leg_in, segment_in, linked, outcome_of}
use Rattle.job_plan.specs.Parts.{walk_in}
use Rattle.prefix_walks.specs.Pieces.{piece_of}
use Rattle.prefix_walks.proofs.ScanLemmas.{whole_piece}
use Rattle.job_routes.proofs.LinkLemmas.{unlinked, without_slices}
use Rattle.job_plan.proofs.walks.walk_leg.Goals as goal

pub returns-in-Some : goal.returns-in-Some
returns-in-Some c =
    let leg = c.args.leg.now in
    let s = segment_in leg.last in
    let env = c.args.walked.env.now in
    let source = walk_in c.of_leg-source.result in
    (rw c.in-Some.is at c.in_ok-outcome.ensures.some) s (piece_of 0 None source) c.in_ok-part.ensures
    ∙ ap (outcome_of s env) (whole_piece source
    ∙ sym (unlinked (leg_in leg).links env source
    (without_slices (leg_in leg) (sym c.streams.ensures ∙ c.if-not-streams.true))))
    ∙ ap (λ (t : Trace). outcome_of s env (linked (leg_in leg).links env t)) c.of_leg-source.ensures

pub returns : goal.returns
returns c =
    let leg = c.args.leg.now in
    let env = c.args.walked.env.now in
    (rw c.in-Some-2.is at c.in_ok-outcome-2.ensures.some) (segment_in leg.last)
    (linked (leg_in leg).links env (walk_in c.of_leg-source.result)) c.in_ok-part-2.ensures.stands
    ∙ ap (λ (t : Trace). outcome_of (segment_in leg.last) env (linked (leg_in leg).links env t)) c.of_leg-source.ensures
