use Rattle.std.proofs.Common.{rules, sym, ◌∙◌}
use Rattle.pending_count.specs.Seats.{view_of}
use Rattle.test_completers.proofs.PathAboveLemmas.{path_above}
use Rattle.test_completers.proofs.paths.arm_above.Goals as goal

pub returns-clause-path : goal.returns-clause-path
returns-clause-path c =
    let d = c.claim-seat.ensures.claimed (search rules) in
    path_above (view_of c.args.seat) (view_of c.claim-seat.result.0) (view_of c.arm.result) d.0 c.in_ok-node.node
    c.args.pending c.first_of.result.now d.2 (sym d.1 ∙ c.in_ok-node.was) c.arm.ensures.armed c.requires.plain
    c.args.path.now c.first_of.ensures c.requires.path
