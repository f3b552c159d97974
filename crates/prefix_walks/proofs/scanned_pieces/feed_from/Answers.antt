use Rattle.std.proofs.Common.{◌≡◌, ◌+◌, ◌-◌, ℤ, List, [], ◌++◌, length, drop, Option, Ok, Err, refl, sym, ap, ◌∙◌}
use Rattle.std.proofs.lemmas.Result.{err_from_is_err_and}
use Rattle.lambda_values.specs.declared.item.Item.{Item}
use Rattle.trace.specs.declared.feeding.Fed.TheVariants as fed
use Rattle.reduce_ops.specs.Operators.{value_of}
use Rattle.prefix_scan.specs.Scans.{fold_at, scan_at}
use Rattle.prefix_walks.specs.Pieces.{after, elements}
use Rattle.prefix_walks.specs.Scans.{all_items, items_of}
use Rattle.prefix_walks.proofs.FeedLemmas.{fed_last, fed_none, fed_on}
use Rattle.prefix_walks.proofs.ScanLemmas.{next_scanned, size_step_below}
use Rattle.prefix_walks.proofs.scanned_pieces.feed_from.Goals as goal

pub loop-piece-init : goal.loop-piece-init
loop-piece-init g c =
    let none : List Item = [] in (
      c.requires.wants,
      λ xs took. (
        none,
        fed_none g.S.LongSink.has_taken c.args.line xs none c.args.sink.now refl took,
        refl,
      ),
      c.requires.few,
      c.requires.folds,
    )

pub loop-piece-preserved : goal.loop-piece-preserved
loop-piece-preserved g c =
    let more = rw c.in-More.is at c.in_ok-stopped.ensures.fed in
    let ps = c.args.pieces.now in
    let w = c.loop-piece.piece-index in
    let p = c.piece-item.result in
    let here = c.loop-piece.here in
    let left = c.loop-piece.left in
    let f = value_of here.prefix.op in
    let r = here.prefix.range in
    let q = here.position in
    let size = c.count-size.result in
    let count : size ≡ length (items_of p) = c.count-size.ensures in
    let later = λ (folded : Option ℤ). scan_at f r (q + size) folded (all_items (drop (w + 1) ps)) in (
      rw c.in-More.is at c.in_ok-stopped.ensures.flow,
      λ xs took.
          let inv = c.loop-piece.invariant.1 xs took in
          let zs = c.put.new.buffer in
          let ys = elements left.from left.to zs in
          let next = next_scanned f r q here.start ps w p left.from left.to size zs c.loop-piece-test.true
          c.piece-item.is count c.put.ensures
          ∙ (λ i. ys ++ elements (sym c.after-left.ensures.from i) (sym c.after-left.ensures.to i)
          (later (sym c.fold_from-here.ensures i))) in
          fed_on g.S.LongSink.has_taken c.args.line xs inv.0 ys
          (elements c.after-left.result.from c.after-left.result.to (later c.fold_from-here.result))
          (elements c.args.window.from c.args.window.to
          (scan_at (value_of c.args.scan.prefix.op) c.args.scan.prefix.range c.args.scan.position c.args.scan.start
          (all_items ps))) c.loop-piece.sink c.feed_buffer.new.sink
          (ap (λ qs. inv.0 ++ qs) (sym next) ∙ inv.2) inv.1 more,
      size_step_below q ps w p size 18446744073709551616 c.loop-piece-test.true c.piece-item.is count
          c.loop-piece.invariant.2,
      c.loop-piece.invariant.3,
    )

pub returns-in_default : goal.returns-in_default
returns-in_default g c = record {
  fed = λ xs took.
      let ps = c.args.pieces.now in
      let w = c.loop-piece.piece-index in
      let p = c.piece-item.result in
      let here = c.loop-piece.here in
      let left = c.loop-piece.left in
      let f = value_of here.prefix.op in
      let r = here.prefix.range in
      let q = here.position in
      let size = length (items_of p) in
      let inv = c.loop-piece.invariant.1 xs took in
      let zs = c.put.new.buffer in
      let next = next_scanned f r q here.start ps w p left.from left.to size zs c.loop-piece-test.true
      c.piece-item.is refl c.put.ensures in
      fed_last g.S.LongSink.has_taken c.args.line xs inv.0 (elements left.from left.to zs)
      (elements (left.from - size) (after left.to size)
      (scan_at f r (q + size) (fold_at f r q here.start (items_of p)) (all_items (drop (w + 1) ps))))
      (elements c.args.window.from c.args.window.to
      (scan_at (value_of c.args.scan.prefix.op) c.args.scan.prefix.range c.args.scan.position c.args.scan.start
      (all_items ps))) (Ok c.in_ok-stopped.stopped) c.loop-piece.sink c.feed_buffer.new.sink
      (ap (λ qs. inv.0 ++ qs) (sym next) ∙ inv.2) (λ e. c.in_default.not-More cc) inv.1 c.in_ok-stopped.ensures.fed;
  flow = c.in_ok-stopped.ensures.flow;
  refused = tt;
}

pub returns-in_err-stopped-clause-fed : goal.returns-in_err-stopped-clause-fed
returns-in_err-stopped-clause-fed g c = λ xs took.
    let ps = c.args.pieces.now in
    let w = c.loop-piece.piece-index in
    let p = c.piece-item.result in
    let here = c.loop-piece.here in
    let left = c.loop-piece.left in
    let f = value_of here.prefix.op in
    let r = here.prefix.range in
    let q = here.position in
    let size = length (items_of p) in
    let inv = c.loop-piece.invariant.1 xs took in
    let zs = c.put.new.buffer in
    let next = next_scanned f r q here.start ps w p left.from left.to size zs c.loop-piece-test.true
    c.piece-item.is refl c.put.ensures in
    let e = err_from_is_err_and c.from_residual.result c.from_residual.ensures.1 in
    rw e.1 (fed_last g.S.LongSink.has_taken c.args.line xs inv.0 (elements left.from left.to zs)
    (elements (left.from - size) (after left.to size)
    (scan_at f r (q + size) (fold_at f r q here.start (items_of p)) (all_items (drop (w + 1) ps))))
    (elements c.args.window.from c.args.window.to
    (scan_at (value_of c.args.scan.prefix.op) c.args.scan.prefix.range c.args.scan.position c.args.scan.start
    (all_items ps))) (Err c.in_err-stopped.field-0.0) c.loop-piece.sink c.feed_buffer.new.sink
    (ap (λ qs. inv.0 ++ qs) (sym next) ∙ inv.2) (λ e. cc) inv.1 c.in_err-stopped.ensures.fed)
