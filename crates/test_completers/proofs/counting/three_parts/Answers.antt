use Rattle.std.proofs.Common.{rules, sym, ◌∙◌}
use Rattle.pending_count.specs.Seats.{view_of}
use Rattle.test_completers.proofs.CountingLemmas.{three_have, three_plain, none_taken}
use Rattle.test_completers.proofs.counting.three_parts.Goals as goal

pub returns-clause-have : goal.returns-clause-have
returns-clause-have c =
    three_have c.in_ok-node.node (view_of c.arm-seat.result) (view_of c.split-first.result.0)
    (view_of c.split-first.result.1) (view_of c.split-second.result.0) (view_of c.split-second.result.1)
    c.split-first.ensures.parts.0 c.split-first.ensures.parts.1 c.split-second.ensures.parts.0
    c.split-second.ensures.parts.1
    (view_of c.claim-seat.result.0) c.arm-seat.ensures.armed.view

pub returns-clause-plain : goal.returns-clause-plain
returns-clause-plain c =
    let c1 = c.claim-seat.ensures.claimed (search rules) in
    three_plain c.in_ok-node.node (view_of c.arm-seat.result) (view_of c.split-first.result.0)
    (view_of c.split-first.result.1) (view_of c.split-second.result.0) (view_of c.split-second.result.1)
    c.split-first.ensures.parts.0 c.split-first.ensures.parts.1 c.split-second.ensures.parts.0
    c.split-second.ensures.parts.1
    (none_taken (view_of c.args.seat) (view_of c.claim-seat.result.0) (view_of c.arm-seat.result) c.in_ok-node.node c1.0
    c.requires.first c1.2 (sym c1.1 ∙ c.in_ok-node.was) c.arm-seat.ensures.armed)
