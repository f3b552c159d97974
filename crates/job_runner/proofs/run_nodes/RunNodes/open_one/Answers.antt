use Rattle.std.proofs.Common.{◌-◌, ◌<◌, ◌≤◌, ◌∙◌, sym, subst, arith}
use Rattle.completion_core.specs.Legal.{count}
use Rattle.pending_count.specs.Seats.{view_of}
use Rattle.job_runner.proofs.SeatLemmas.{below_has, below_held_at, part_arrives, rest_purse}
use Rattle.job_runner.proofs.run_nodes.RunNodes.open_one.Goals as goal

pub split-seat-requires-clause-have : goal.split-seat-requires-clause-have
split-seat-requires-clause-have g c =
    let p = c.args.unopened in
    subst (λ k. 0 < count k (view_of p.seat).held) (sym c.start.ensures.0)
    (below_has g.R.RunBrand.start p.jobs p.seat c.requires.some_left p.held)

pub arrive_at-requires-clause-can : goal.arrive_at-requires-clause-can
arrive_at-requires-clause-can g c =
    let p = c.args.unopened in
    let s = c.split-seat.ensures in
    part_arrives (p.jobs - 1) c.start.result.now.node _ p.seat _ c.start.ensures.0 p.knows (s.seat.1 ∙ p.table)
    s.parts.1

pub invariant_of-rest : goal.invariant_of-rest
invariant_of-rest g c =
    let p = c.args.unopened in
    let s = c.split-seat.ensures in
    let f = p.few in
    let few : p.jobs - 1 ≤ g.R.RunBrand.jobs = omega arith in
    let r = rest_purse c.start.result.now.node _ p.seat c.split-seat.result.0 p.knows p.no_side s.parts.0 in
    record {
      table = s.seat.0.0 ∙ p.table;
      held = below_held_at g.R.RunBrand.start p.jobs c.start.result.now.node _ p.seat c.split-seat.result.0
          c.requires.some_left p.held c.start.ensures.0 s.parts.0;
      no_side = r.1;
      knows = r.0;
      few = few;
    }
