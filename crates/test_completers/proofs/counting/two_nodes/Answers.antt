use Rattle.std.proofs.Common.{rules, sym, ◌∙◌}
use Rattle.pending_count.specs.Seats.{view_of}
use Rattle.pending_count.proofs.CallerLemmas.{was_pending, was_last}
use Rattle.test_completers.proofs.CountingLemmas.{can_claim, first_above, both_above, onward_smaller, second_plain}
use Rattle.test_completers.proofs.CountingLemmas.{second_again, second_left, first_is_back, first_plain, end_is_back}
use Rattle.test_completers.proofs.counting.two_nodes.Goals as goal

pub arm-seat-requires-2-clause-smaller : goal.arm-seat-requires-2-clause-smaller
arm-seat-requires-2-clause-smaller c =
    let c1 = c.claim-seat.ensures.claimed (search rules) in
    let c2 = c.claim-seat-2.ensures.claimed
    (can_claim (view_of c.args.seat) (view_of c.claim-seat.result.0) (view_of c.arm-seat.result) c.in_ok-a.a c1.0
    c.requires.first c1.2 (sym c1.1 ∙ c.in_ok-a.was) c.arm-seat.ensures.armed) in
    onward_smaller (view_of c.args.seat) (view_of c.claim-seat.result.0) (view_of c.arm-seat.result)
    (view_of c.claim-seat-2.result.0) c.in_ok-a.a c.in_ok-b.b c1.0 c2.0 c.requires.first c1.2
    (sym c1.1 ∙ c.in_ok-a.was) c.arm-seat.ensures.armed c2.2 (sym c2.1 ∙ c.in_ok-b.was)

pub arrive-requires-clause-plain : goal.arrive-requires-clause-plain
arrive-requires-clause-plain c =
    let c1 = c.claim-seat.ensures.claimed (search rules) in
    let c2 = c.claim-seat-2.ensures.claimed
    (can_claim (view_of c.args.seat) (view_of c.claim-seat.result.0) (view_of c.arm-seat.result) c.in_ok-a.a c1.0
    c.requires.first c1.2 (sym c1.1 ∙ c.in_ok-a.was) c.arm-seat.ensures.armed) in
    second_plain (view_of c.args.seat) (view_of c.claim-seat.result.0) (view_of c.arm-seat.result)
    (view_of c.claim-seat-2.result.0) c.in_ok-a.a c.in_ok-b.b c1.0 c2.0 c.requires.first c1.2
    (sym c1.1 ∙ c.in_ok-a.was) c.arm-seat.ensures.armed c2.2 (sym c2.1 ∙ c.in_ok-b.was)
    (view_of c.arm-seat-2.result) c.arm-seat-2.ensures.armed

pub arrive-requires-2-clause-node : goal.arrive-requires-2-clause-node
arrive-requires-2-clause-node c =
    let c1 = c.claim-seat.ensures.claimed (search rules) in
    let c2 = c.claim-seat-2.ensures.claimed
    (can_claim (view_of c.args.seat) (view_of c.claim-seat.result.0) (view_of c.arm-seat.result) c.in_ok-a.a c1.0
    c.requires.first c1.2 (sym c1.1 ∙ c.in_ok-a.was) c.arm-seat.ensures.armed) in
    both_above (view_of c.args.seat) (view_of c.claim-seat.result.0) (view_of c.arm-seat.result)
    (view_of c.claim-seat-2.result.0) c.in_ok-a.a c.in_ok-b.b c1.0 c2.0 c.requires.first c1.2
    (sym c1.1 ∙ c.in_ok-a.was) c.arm-seat.ensures.armed c2.2 (sym c2.1 ∙ c.in_ok-b.was)

pub arrive-requires-2-clause-have : goal.arrive-requires-2-clause-have
arrive-requires-2-clause-have c =
    let c1 = c.claim-seat.ensures.claimed (search rules) in
    let c2 = c.claim-seat-2.ensures.claimed
    (can_claim (view_of c.args.seat) (view_of c.claim-seat.result.0) (view_of c.arm-seat.result) c.in_ok-a.a c1.0
    c.requires.first c1.2 (sym c1.1 ∙ c.in_ok-a.was) c.arm-seat.ensures.armed) in
    let p = c.in-Pending.ensures.arrived in
    second_left (view_of c.args.seat) (view_of c.claim-seat.result.0) (view_of c.arm-seat.result)
    (view_of c.claim-seat-2.result.0) c.in_ok-a.a c.in_ok-b.b c1.0 c2.0 c.requires.first c1.2
    (sym c1.1 ∙ c.in_ok-a.was) c.arm-seat.ensures.armed c2.2 (sym c2.1 ∙ c.in_ok-b.was)
    (view_of c.arm-seat-2.result) c.arm-seat-2.ensures.armed (view_of c.in-Pending.seat) p.0 p.2
    (was_pending p.0 _ p.1 p.2.some_owed).0

pub arrive-requires-2-clause-plain : goal.arrive-requires-2-clause-plain
arrive-requires-2-clause-plain c =
    let c1 = c.claim-seat.ensures.claimed (search rules) in
    let c2 = c.claim-seat-2.ensures.claimed
    (can_claim (view_of c.args.seat) (view_of c.claim-seat.result.0) (view_of c.arm-seat.result) c.in_ok-a.a c1.0
    c.requires.first c1.2 (sym c1.1 ∙ c.in_ok-a.was) c.arm-seat.ensures.armed) in
    let p = c.in-Pending.ensures.arrived in
    second_again (view_of c.args.seat) (view_of c.claim-seat.result.0) (view_of c.arm-seat.result)
    (view_of c.claim-seat-2.result.0) c.in_ok-a.a c.in_ok-b.b c1.0 c2.0 c.requires.first c1.2
    (sym c1.1 ∙ c.in_ok-a.was) c.arm-seat.ensures.armed c2.2 (sym c2.1 ∙ c.in_ok-b.was)
    (view_of c.arm-seat-2.result) c.arm-seat-2.ensures.armed (view_of c.in-Pending.seat) p.0 p.2
    (was_pending p.0 _ p.1 p.2.some_owed).0

pub arrive-requires-3-clause-node : goal.arrive-requires-3-clause-node
arrive-requires-3-clause-node c =
    let c1 = c.claim-seat.ensures.claimed (search rules) in
    let c2 = c.claim-seat-2.ensures.claimed
    (can_claim (view_of c.args.seat) (view_of c.claim-seat.result.0) (view_of c.arm-seat.result) c.in_ok-a.a c1.0
    c.requires.first c1.2 (sym c1.1 ∙ c.in_ok-a.was) c.arm-seat.ensures.armed) in
    first_above (view_of c.args.seat) (view_of c.claim-seat.result.0) (view_of c.arm-seat.result)
    (view_of c.claim-seat-2.result.0) c.in_ok-a.a c.in_ok-b.b c1.0 c2.0 c.requires.first c1.2
    (sym c1.1 ∙ c.in_ok-a.was) c.arm-seat.ensures.armed c2.2 (sym c2.1 ∙ c.in_ok-b.was)

pub arrive-requires-3-clause-have : goal.arrive-requires-3-clause-have
arrive-requires-3-clause-have c =
    let c1 = c.claim-seat.ensures.claimed (search rules) in
    let c2 = c.claim-seat-2.ensures.claimed
    (can_claim (view_of c.args.seat) (view_of c.claim-seat.result.0) (view_of c.arm-seat.result) c.in_ok-a.a c1.0
    c.requires.first c1.2 (sym c1.1 ∙ c.in_ok-a.was) c.arm-seat.ensures.armed) in
    let p = c.in-Pending.ensures.arrived in
    let l = c.in-Last.ensures.arrived in
    first_is_back (view_of c.args.seat) (view_of c.claim-seat.result.0) (view_of c.arm-seat.result)
    (view_of c.claim-seat-2.result.0) c.in_ok-a.a c.in_ok-b.b c1.0 c2.0 c.requires.first c1.2
    (sym c1.1 ∙ c.in_ok-a.was) c.arm-seat.ensures.armed c2.2 (sym c2.1 ∙ c.in_ok-b.was)
    (view_of c.arm-seat-2.result) (view_of c.in-Pending.seat) (view_of c.in-Last.seat) c.arm-seat-2.ensures.armed p.0
    l.0 p.2 (was_pending p.0 _ p.1 p.2.some_owed).0 l.2 (was_last l.0 l.1 l.2.some_owed)

pub arrive-requires-3-clause-plain : goal.arrive-requires-3-clause-plain
arrive-requires-3-clause-plain c =
    let c1 = c.claim-seat.ensures.claimed (search rules) in
    let c2 = c.claim-seat-2.ensures.claimed
    (can_claim (view_of c.args.seat) (view_of c.claim-seat.result.0) (view_of c.arm-seat.result) c.in_ok-a.a c1.0
    c.requires.first c1.2 (sym c1.1 ∙ c.in_ok-a.was) c.arm-seat.ensures.armed) in
    let p = c.in-Pending.ensures.arrived in
    let l = c.in-Last.ensures.arrived in
    first_plain (view_of c.args.seat) (view_of c.claim-seat.result.0) (view_of c.arm-seat.result)
    (view_of c.claim-seat-2.result.0) c.in_ok-a.a c.in_ok-b.b c1.0 c2.0 c.requires.first c1.2
    (sym c1.1 ∙ c.in_ok-a.was) c.arm-seat.ensures.armed c2.2 (sym c2.1 ∙ c.in_ok-b.was)
    (view_of c.arm-seat-2.result) (view_of c.in-Pending.seat) (view_of c.in-Last.seat) c.arm-seat-2.ensures.armed p.0
    l.0 p.2 (was_pending p.0 _ p.1 p.2.some_owed).0 l.2 (was_last l.0 l.1 l.2.some_owed)

pub settle-seat-requires-clause-have : goal.settle-seat-requires-clause-have
settle-seat-requires-clause-have c =
    let c1 = c.claim-seat.ensures.claimed (search rules) in
    let c2 = c.claim-seat-2.ensures.claimed
    (can_claim (view_of c.args.seat) (view_of c.claim-seat.result.0) (view_of c.arm-seat.result) c.in_ok-a.a c1.0
    c.requires.first c1.2 (sym c1.1 ∙ c.in_ok-a.was) c.arm-seat.ensures.armed) in
    let p = c.in-Pending.ensures.arrived in
    let l = c.in-Last.ensures.arrived in
    let m = c.in-Last-arrive.ensures.arrived in
    end_is_back (view_of c.args.seat) (view_of c.claim-seat.result.0) (view_of c.arm-seat.result)
    (view_of c.claim-seat-2.result.0) c.in_ok-a.a c.in_ok-b.b c1.0 c2.0 c.requires.first c1.2
    (sym c1.1 ∙ c.in_ok-a.was) c.arm-seat.ensures.armed c2.2 (sym c2.1 ∙ c.in_ok-b.was)
    (view_of c.arm-seat-2.result) (view_of c.in-Pending.seat) (view_of c.in-Last.seat) c.arm-seat-2.ensures.armed p.0
    l.0 p.2 (was_pending p.0 _ p.1 p.2.some_owed).0 l.2 (was_last l.0 l.1 l.2.some_owed)
    (view_of c.in-Last-arrive.seat) m.0 m.2 (was_last m.0 m.1 m.2.some_owed)
