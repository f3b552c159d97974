use Rattle.std.proofs.Common.{◌≡◌, ◌+◌, ◌-◌, ◌<◌, length, take, drop, slice_get, List, None, sym, ap, subst, ◌∙◌, arith}
use Rattle.lambda_values.specs.declared.item.Item.{Item}
use Rattle.trace.specs.declared.item.End.TheVariants as end
use Rattle.trace.specs.Sinks.{IsFed}
use Rattle.trace.specs.Trace.{Trace, trace}
use Rattle.reduce_ops.specs.Operators.{value_of}
use Rattle.prefix_scan.specs.Scans.{scan_at}
use Rattle.prefix_walks.specs.declared.folded_piece.FoldedPiece.{FoldedPiece}
use Rattle.prefix_walks.specs.declared.folded_piece.PieceStart.{PieceStart}
use Rattle.prefix_walks.specs.Pieces.{elements}
use Rattle.batch_eval.specs.Pipelines.{piped}
use Rattle.prefix_walks.specs.Scans.{all_items}
use Rattle.std.proofs.lemmas.List.{take_rest}
use Rattle.prefix_walks.proofs.ScanLemmas.{few_after, marked, scanned_after}
use Rattle.prefix_walks.proofs.scanned_pieces.feed_scanned.Goals as goal

pub feed_from-requires-clause-few : goal.feed_from-requires-clause-few
feed_from-requires-clause-few g c =
    let walk = c.walk.inside in
    let ps = walk.pieces.items in
    let k = c.in-Some.first in
    let m = c.in-Some.mark in
    let found = sym (ap (λ (ms : List PieceStart). slice_get ms k) (c.deref.ensures.value ∙ c.walk.invariant.marks))
    ∙ c.in-Some.ensures.found in
    let at = marked (value_of walk.prefix.op) walk.prefix.range ps k m found in
    let size : walk.size < 18446744073709551616 = c.walk.invariant.few in
    let few = few_after ps k m.before walk.size 18446744073709551616 at.0 c.walk.invariant.size_is size in
    subst (λ (qs : List FoldedPiece). m.before + length (all_items qs) < 18446744073709551616)
    (sym (ap (λ (qs : List FoldedPiece). take (length qs - k) (drop k qs)) c.deref-then-first-len.ensures.value
    ∙ take_rest ps k)) few

pub feed_from-requires-2-clause-few : goal.feed_from-requires-2-clause-few
feed_from-requires-2-clause-few g c =
    let walk = c.walk.inside in
    let size : walk.size < 18446744073709551616 = c.walk.invariant.few in
    let same : length (all_items c.deref-2.result.now) ≡ length (all_items walk.pieces.items) =
    ap (λ (qs : List FoldedPiece). length (all_items qs)) c.deref-2.ensures.value in
    omega (arith, size, same, c.walk.invariant.size_is)

pub returns-then-first-len-clause-fed : goal.returns-then-first-len-clause-fed
returns-then-first-len-clause-fed g c = λ xs took.
    let walk = c.walk.inside in
    let ps = walk.pieces.items in
    let f = value_of walk.prefix.op in
    let r = walk.prefix.range in
    let k = c.in-Some.first in
    let m = c.in-Some.mark in
    let found = sym (ap (λ (ms : List PieceStart). slice_get ms k) (c.deref.ensures.value ∙ c.walk.invariant.marks))
    ∙ c.in-Some.ensures.found in
    let at = marked f r ps k m found in
    let all : c.args.walk.now.items ≡ scan_at f r 0 None (all_items ps) =
    ap (λ (t : Trace). t.items) (sym c.walk.view_is) in
    let left = ap (λ (qs : List FoldedPiece). take (length qs - k) (drop k qs)) c.deref-then-first-len.ensures.value
    ∙ take_rest ps k in
    let same = ap (elements c.args.window.from c.args.window.to) all
    ∙ scanned_after f r ps k m.before c.args.window.from m.start c.args.window.to at.0 at.1 c.in-Some.ensures.inside
    ∙ (λ i. elements (sym c.after-left.ensures.from i) (sym c.after-left.ensures.to i)
    (scan_at f r m.before m.start (all_items (sym left i)))) in
    subst (λ (ys : List Item). IsFed g.S.LongSink.has_taken xs (piped c.args.line (trace ys end.Done))
    c.feed_from.result c.feed_from.new.sink) (sym same) (c.feed_from.ensures.fed xs took)

pub returns-clause-fed : goal.returns-clause-fed
returns-clause-fed g c = λ xs took.
    let walk = c.walk.inside in
    let ps = walk.pieces.items in
    let f = value_of walk.prefix.op in
    let r = walk.prefix.range in
    let all : c.args.walk.now.items ≡ scan_at f r 0 None (all_items ps) =
    ap (λ (t : Trace). t.items) (sym c.walk.view_is) in
    let same = ap (elements c.args.window.from c.args.window.to)
    (all ∙ ap (λ (qs : List FoldedPiece). scan_at f r 0 None (all_items qs)) (sym c.deref-2.ensures.value)) in
    subst (λ (ys : List Item). IsFed g.S.LongSink.has_taken xs (piped c.args.line (trace ys end.Done))
    c.feed_from-2.result c.feed_from-2.new.sink) (sym same) (c.feed_from-2.ensures.fed xs took)
