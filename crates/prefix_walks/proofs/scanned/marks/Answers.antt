use Rattle.std.proofs.Common.{◌≡◌, ◌+◌, length, ap, ◌∙◌}
use Rattle.reduce_ops.specs.Operators.{value_of}
use Rattle.prefix_walks.proofs.ScanLemmas.{marks_step, size_step}
use Rattle.prefix_walks.specs.Scans.{all_items, items_of}
use Rattle.prefix_walks.proofs.scanned.marks.Goals as goal

pub loop-piece-preserved : goal.loop-piece-preserved
loop-piece-preserved c =
    let ps = c.args.pieces.now in
    let w = c.loop-piece.piece-index in
    let p = c.piece-item.result in
    let q = c.loop-piece.before in
    let some = c.in-Some.ensures in
    let count : c.count.result ≡ length (items_of p) = c.count.ensures in
    let next : c.in-Some.next ≡ q + length (items_of p) = some.1 ∙ ap (λ n. q + n) count in (
      marks_step (value_of c.args.prefix.op) c.args.prefix.range q c.loop-piece.start ps w p c.loop-piece.marks.items
          c.push.new.self.items c.in-Some.next c.fold_from-start.result c.loop-piece-test.true c.piece-item.is
          c.in_ok-push.ensures.items next c.fold_from-start.ensures ∙ c.loop-piece.invariant.0,
      size_step q ps w p c.in-Some.next (length (all_items ps)) c.loop-piece-test.true c.piece-item.is next
          c.loop-piece.invariant.1,
    )
