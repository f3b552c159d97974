use Rattle.std.proofs.Common.{◌≡◌, ◌≢◌, ◌<◌, ◌∙◌, sym, arith}
use Rattle.job_runner.proofs.SeatLemmas.{arrived_kept, lone_kept}
use Rattle.job_runner.proofs.ArmLemmas.{last_along, start_path}
use Rattle.job_runner.proofs.run_nodes.RunNodes.arrive_at.Goals as goal

pub invariant_of-lone : goal.invariant_of-lone
invariant_of-lone g c =
    let end : c.start.result.now.node ≡ 0 = omega (arith, c.if-node-eq-END.true) in
    record {
      has = lone_kept c.args.job c.args.seat c.requires.job (sym c.start.ensures.0 ∙ end) c.requires.can;
      known = c.requires.job;
    }

pub propagate_completion-seat-requires-clause-path : goal.propagate_completion-seat-requires-clause-path
propagate_completion-seat-requires-clause-path g c =
    let some : 0 < c.start.result.now.node = omega (arith, c.if-node-eq-END.false) in
    start_path c.args.job c.start.result.now.node c.args.seat some c.start.ensures.0 c.requires.can

pub invariant_of-begun : goal.invariant_of-begun
invariant_of-begun g c =
    let node : 0 < c.start.result.now.node = omega (arith, c.if-node-eq-END.false) in
    let p = c.propagate_completion-seat in
    let some : p.result.1 ≢ 0 = λ e. absurd (omega (arith, c.if-finished-eq0.false)) in
    let l = last_along c.start.result.now.node p.result.1 _ _ p.ensures.finished some in
    record {
      has = arrived_kept c.args.job c.start.result.now.node l.0 c.args.seat p.result.0 c.requires.job node
          c.start.ensures.0 c.requires.can (p.ensures.seat.0 ∙ c.requires.can.table) l.1 l.2;
      known = c.requires.job;
    }
