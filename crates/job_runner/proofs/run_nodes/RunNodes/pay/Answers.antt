use Rattle.std.proofs.Common.{◌≡◌, ◌∙◌, length, rules}
use Rattle.pending_count.specs.Seats.{view_of}
use Rattle.job_runner.proofs.SeatLemmas.{credit_joined}
use Rattle.job_runner.proofs.run_nodes.RunNodes.pay.Goals as goal

pub invariant_of-result : goal.invariant_of-result
invariant_of-result g c =
    let b = c.args.begun in
    let spare = c.in-Some.own in
    let j = c.join-seat.ensures in
    let none : length (view_of spare.seat).places ≡ 0 = spare.unplaced in
    record {
      has = credit_joined _ (g.R.RunBrand.keeps b.job) b.seat spare.seat c.split-rest.result.1 c.join-seat.result
          (j.seat.0 ∙ b.has.table) none c.split-rest.ensures.parts.1 j.both b.has;
      known = b.known;
    }

pub returns-clause-paid : goal.returns-clause-paid
returns-clause-paid g c = search rules

pub returns-clause-left : goal.returns-clause-left
returns-clause-left g c = search rules
