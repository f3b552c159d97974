use Rattle.std.proofs.Common.{◌∙◌}
use Rattle.completer_tree.proofs.RootLemmas.{at_some}
use Rattle.job_runner.proofs.SeatLemmas.{kept_back}
use Rattle.job_runner.proofs.walking.leaf.Goals as goal

pub invariant_of-begun : goal.invariant_of-begun
invariant_of-begun g c =
    let t = c.try_complete_with-seat in
    let side = c.args.side in
    let p = side.half.place in
    record {
      has = kept_back p.tag.job side.half.seat t.result.0 p side.piece.known
          (t.ensures.seat.0 ∙ side.can.can_hand.table) side.can.can_hand side.top side.knows
          (at_some _ t.result.1 t.ensures.kept c.in-Some.part c.in-Some.is);
      known = side.piece.known;
    }
