use Rattle.std.proofs.Common.{◌≡◌, ◌+◌, ◌-◌, ◌≤◌, List, [], length, take, take-add, drop, Ok, Err, refl, sym, subst}
use Rattle.std.proofs.Common.{arith, rules}
use Rattle.std.proofs.lemmas.List.{take-append-drop}
use Rattle.std.proofs.lemmas.Result.{err_from_is_err_and}
use Rattle.lambda_values.specs.declared.item.Item.{Item}
use Rattle.trace.specs.declared.feeding.Fed.TheVariants as fed
use Rattle.trace.specs.declared.item.End.TheVariants as end
use Rattle.trace.specs.Sinks.{IsFed}
use Rattle.trace.specs.Trace.{trace}
use Rattle.batch_eval.specs.Pipelines.{piped}
use Rattle.sort_ops.specs.Runs.{items_of}
use Rattle.prefix_walks.specs.Pieces.{elements}
use Rattle.prefix_walks.proofs.FeedLemmas.{fed_none, fed_both, fed_stopped}
use Rattle.prefix_walks.proofs.KeptLemmas.{buffered}
use Rattle.prefix_walks.proofs.kept_items.feed_parts.Goals as goal

pub loop-from-init : goal.loop-from-init
loop-from-init g c =
    let none : List Item = [] in (
      omega arith,
      c.requires.wants,
      λ xs took. fed_none g.S.LongSink.has_taken c.args.line xs none c.args.sink.now refl
          took,
    )

pub loop-from-preserved : goal.loop-from-preserved
loop-from-preserved g c =
    let more = rw c.in-More.is at c.in_ok-stopped.ensures.fed in
    let items = items_of c.args.items in
    let from = c.loop-from.from in
    let count = c.min-count.result in
    let few : count ≤ 1024 = search rules in
    let filled : length (take (from + count - from) (drop from items)) ≤ 1024
    → c.fill.new.self ≡ take (from + count - from) (drop from items) =
    subst (λ (l : List Item). length l ≤ 1024 → c.fill.new.self ≡ l) c.between.ensures c.fill.ensures in
    let here : elements c.all.result.from c.all.result.to c.fill.new.self ≡ take count (drop from items) =
    buffered items c.fill.new.self from count c.all.result.from c.all.result.to c.all.ensures.0 c.all.ensures.1 few
    filled in (
      search rules,
      rw c.in-More.is at c.in_ok-stopped.ensures.flow,
      λ xs took.
          let has = g.S.LongSink.has_taken in
          fed_both has c.args.line xs (take from items) (take count (drop from items)) (take (from + count) items)
          (Ok fed.More) c.loop-from.sink c.feed_buffer.new.sink (take-add from count items)
          (c.loop-from.invariant.2 xs took)
          (λ vs had. subst (λ (ys : List Item). IsFed has vs (piped c.args.line (trace ys end.Done)) (Ok fed.More)
          c.feed_buffer.new.sink) here (more vs had)),
    )

pub returns-in_default : goal.returns-in_default
returns-in_default g c = record {
  fed = λ xs took.
      let has = g.S.LongSink.has_taken in
      let items = items_of c.args.items in
      let from = c.loop-from.from in
      let count = c.min-count.result in
      let few : count ≤ 1024 = search rules in
      let filled : length (take (from + count - from) (drop from items)) ≤ 1024
      → c.fill.new.self ≡ take (from + count - from) (drop from items) =
      subst (λ (l : List Item). length l ≤ 1024 → c.fill.new.self ≡ l) c.between.ensures c.fill.ensures in
      let here : elements c.all.result.from c.all.result.to c.fill.new.self ≡ take count (drop from items) =
      buffered items c.fill.new.self from count c.all.result.from c.all.result.to c.all.ensures.0 c.all.ensures.1 few
      filled in
      let r = Ok c.in_ok-stopped.stopped in
      fed_both has c.args.line xs (take from items) (drop from items) items r c.loop-from.sink c.feed_buffer.new.sink
      (sym (take-append-drop from items)) (c.loop-from.invariant.2 xs took)
      (λ vs had. fed_stopped has c.args.line vs (take count (drop from items)) (drop count (drop from items))
      (drop from items) r c.feed_buffer.new.sink
      (sym (take-append-drop count (drop from items))) (λ e. c.in_default.not-More cc)
      (subst (λ (ys : List Item). IsFed has vs (piped c.args.line (trace ys end.Done)) r c.feed_buffer.new.sink) here
      (c.in_ok-stopped.ensures.fed vs had)));
  flow = c.in_ok-stopped.ensures.flow;
  refused = tt;
}

pub returns-in_err-stopped-clause-fed : goal.returns-in_err-stopped-clause-fed
returns-in_err-stopped-clause-fed g c = λ xs took.
    let has = g.S.LongSink.has_taken in
    let items = items_of c.args.items in
    let from = c.loop-from.from in
    let count = c.min-count.result in
    let few : count ≤ 1024 = search rules in
    let filled : length (take (from + count - from) (drop from items)) ≤ 1024
    → c.fill.new.self ≡ take (from + count - from) (drop from items) =
    subst (λ (l : List Item). length l ≤ 1024 → c.fill.new.self ≡ l) c.between.ensures c.fill.ensures in
    let here : elements c.all.result.from c.all.result.to c.fill.new.self ≡ take count (drop from items) =
    buffered items c.fill.new.self from count c.all.result.from c.all.result.to c.all.ensures.0 c.all.ensures.1 few
    filled in
    let e = err_from_is_err_and c.from_residual.result c.from_residual.ensures.1 in
    rw e.1 (fed_both has c.args.line xs (take from items) (drop from items) items (Err c.in_err-stopped.field-0.0)
    c.loop-from.sink c.feed_buffer.new.sink (sym (take-append-drop from items))
    (c.loop-from.invariant.2 xs took)
    (λ vs had. fed_stopped has c.args.line vs (take count (drop from items)) (drop count (drop from items))
    (drop from items) (Err c.in_err-stopped.field-0.0) c.feed_buffer.new.sink
    (sym (take-append-drop count (drop from items))) (λ e. cc)
    (subst (λ (ys : List Item). IsFed has vs (piped c.args.line (trace ys end.Done)) (Err c.in_err-stopped.field-0.0)
    c.feed_buffer.new.sink) here (c.in_err-stopped.ensures.fed vs had))))
