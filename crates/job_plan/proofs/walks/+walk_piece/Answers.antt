use Rattle.std.proofs.Common.{Some, sym, ◌∙◌}
use Rattle.job_routes.specs.Legs.{segment_in}
use Rattle.job_plan.specs.Parts.{walk_in}
use Rattle.prefix_walks.specs.Pieces.{piece_of}
use Rattle.job_plan.proofs.WalkLemmas.{merged_piece, not_after, settled_piece}
use Rattle.job_plan.proofs.walks.+walk_piece.Goals as goal

pub returns-then-is_settled : goal.returns-then-is_settled
returns-then-is_settled t c =
    let middle = c.middle_of-middle.result in
    settled_piece (segment_in c.args.leg.now.last) c.args.walked.env.now c.in_ok-left-in-Node.left
    (walk_in c.args.walked.source) c.args.window.from middle c.args.window.to
    c.middle_of-middle.ensures.not_before (not_after middle c.args.window.to c.middle_of-middle.ensures.not_after)
    (sym c.is_settled.ensures ∙ c.if-is_settled.true) c.in_ok-left-in-Node.ensures

pub returns-in-Ok : goal.returns-in-Ok
returns-in-Ok t c =
    let s = segment_in c.args.leg.now.last in
    let env = c.args.walked.env.now in
    let source = walk_in c.args.walked.source in
    let middle = c.middle_of-middle.result in
    merged_piece s env c.in-Ok.part source c.args.window.from middle c.args.window.to
    c.middle_of-middle.ensures.not_before (not_after middle c.args.window.to c.middle_of-middle.ensures.not_after)
    (c.in-Ok.ensures.ok s env (piece_of c.args.window.from (Some middle) source)
    (piece_of middle c.args.window.to source) c.in_ok-left-in-Node.ensures c.in_ok-right-in-Node.ensures)
