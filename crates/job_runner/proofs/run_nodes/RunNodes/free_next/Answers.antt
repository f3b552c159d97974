use Rattle.std.proofs.Common.{◌≡◌, ◌∙◌, arith, slice_index_or}
use Rattle.job_runner.specs.declared.start.Waiting.{Waiting}
use Rattle.job_runner.proofs.SeatLemmas.{next_waits, part_arrives, rest_kept}
use Rattle.job_runner.proofs.run_nodes.RunNodes.free_next.Goals as goal

pub arrive_at-requires-clause-can : goal.arrive_at-requires-clause-can
arrive_at-requires-clause-can g c =
    let w : Waiting = slice_index_or c.args.waiting.now c.args.at (record { job = 0; node = 0 }) in
    let s = c.split-seat.ensures in
    let same : w.node ≡ c.start.result.now.node = omega (arith, c.if-start-next.false) in
    part_arrives w.job w.node _ c.args.seat _ (same ∙ c.start.ensures.0) c.requires.has.knows
    (s.seat.1 ∙ c.requires.has.table) s.parts.1

pub returns : goal.returns
returns g c =
    let s = c.split-seat.ensures in
    rest_kept _ _ _ c.args.seat _ s.seat.0.0 s.parts.0
    (next_waits c.args.waiting.now c.args.at (record { job = 0; node = 0 }) c.args.seat c.requires.at
    c.requires.has)
