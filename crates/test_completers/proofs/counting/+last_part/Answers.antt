use Rattle.std.proofs.Common.{arith, ◌∙◌, ◌/◌}
use Rattle.pending_count.specs.Seats.{view_of}
use Rattle.pending_count.proofs.CallerLemmas.{part_has}
use Rattle.test_completers.proofs.counting.+last_part.Goals as goal

pub last_part-requires : goal.last_part-requires
last_part-requires t c =
    let more = c.if-k-eq0.false in
    let h = part_has c.args.node c.args.k (c.credit-credit.result / 2) (view_of c.args.seat)
    (view_of c.split-rest.result.1) c.split-rest.ensures.parts.1 (omega arith) in (
      let d = c.decreases in omega arith,
      (c.split-rest.ensures.seat.1 ∙ c.requires.table, (c.requires.node, (h.0, h.1))),
    )
