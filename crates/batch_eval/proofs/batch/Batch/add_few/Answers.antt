use Rattle.std.proofs.Common.{◌≡◌, ◌+◌, ◌<◌, ◌≤◌, ◌++◌, ℕ, ℤ, List, None, length, ap, ◌∙◌, rules, arith}
use Rattle.std.proofs.lemmas.List.{places, with_items_is}
use Rattle.std.specs.Vec.{with_items}
use Rattle.lambda_values.specs.Streams.{inner_of}
use Rattle.lambda_values.specs.declared.item.Item.{Item}
use Rattle.trace.specs.Stages.{at_place}
use Rattle.trace.specs.Trace.{Trace, trace}
use Rattle.batch_eval.specs.Lanes.{at}
use Rattle.batch_eval.specs.Batches.{gathered, item_at, lanes, origin_at}
use Rattle.batch_eval.specs.InnerColumns.{values_at}
use Rattle.batch_eval.proofs.FewLemmas.{few_added}
use Rattle.batch_eval.proofs.Items.{counts_less, length_lanes}
use Rattle.batch_eval.proofs.Walks.{lanes_same}
use Rattle.batch_eval.proofs.batch.Batch.add_few.Goals as goal

pub put_values-put-requires-clause-lanes : goal.put_values-put-requires-clause-lanes
put_values-put-requires-clause-lanes c =
    let b = c.batch.inside in
    let old : ℕ → Item = item_at b.start b.origins.items b.values.items in
    let same : length (lanes b.live old) ≡ length c.args.batch.now.items =
    ap (λ (t : Trace). length t.items) c.batch.view_is in
    omega (arith, length_lanes b.live old, same, c.requires.lanes, c.batch.invariant.live_lanes)

pub put_values-put-requires-clause-places : goal.put_values-put-requires-clause-places
put_values-put-requires-clause-places c =
    let b = c.batch.inside in
    let old : ℕ → Item = item_at b.start b.origins.items b.values.items in
    let same : length (lanes b.live old) ≡ length c.args.batch.now.items =
    ap (λ (t : Trace). length t.items) c.batch.view_is in
    let kept : length c.deref.result.now ≡ length b.origins.items = ap length c.deref.ensures.value in
    omega (
      arith,
      length_lanes b.live old,
      same,
      kept,
      c.requires.lanes,
      c.batch.invariant.live_lanes,
      c.batch.invariant.origins_length,
    )

pub put_values-put-requires-clause-counts : goal.put_values-put-requires-clause-counts
put_values-put-requires-clause-counts c =
    let b = c.batch.inside in
    let old : ℕ → Item = item_at b.start b.origins.items b.values.items in
    let same : length (lanes b.live old) ≡ length c.args.batch.now.items =
    ap (λ (t : Trace). length t.items) c.batch.view_is in
    counts_less b.start c.args.columns.lanes b.live (omega (arith, length_lanes b.live old, same, c.requires.lanes))
    c.batch.invariant.counts

pub returns-clause-added : goal.returns-clause-added
returns-clause-added c = λ stage env operands.
    let b = c.self.inside in
    let from = c.batch.inside in
    let inner = inner_of c.args.columns.inner.now in
    let registers = c.args.columns.registers.now in
    let p = c.args.position in
    let put = c.put_values-put in
    let listed = c.list_places.new.origins in
    let first = with_items b.origins listed in
    let first_is : first.items ≡ listed = with_items_is b.origins listed (search (rules, places)) in
    let origins = with_items first put.new.origins in
    let origins_are : origins.items ≡ put.new.origins = with_items_is first put.new.origins (search (rules, places)) in
    let values = with_items b.values put.new.values in
    let values_are : values.items ≡ put.new.values = with_items_is b.values put.new.values (search (rules, places)) in
    let old : ℕ → Item = item_at b.start b.origins.items b.values.items in
    let stays : (k : ℕ) → k < b.live → item_at None c.deref_mut-2.result.now c.deref_mut-3.result.now k ≡ old k =
    λ k below.
    ap (λ (xs : List ℕ). item_at None xs c.deref_mut-3.result.now k) (c.deref_mut-2.ensures.value ∙ first_is)
    ∙ ap (λ (ys : List ℤ). item_at None listed ys k) c.deref_mut-3.ensures.value
    ∙ ap (λ (o : ℕ). record { origin = o; value = at b.values.items k })
    (c.list_places.ensures k below ∙ ap (λ (xs : List ℕ). origin_at b.start xs k) c.deref_mut.ensures.value) in
    let front : lanes b.live (item_at None c.deref_mut-2.result.now c.deref_mut-3.result.now) ≡ c.args.self.now.items =
    lanes_same b.live (item_at None c.deref_mut-2.result.now c.deref_mut-3.result.now) old stays
    ∙ ap (λ (t : Trace). t.items) c.self.view_is in
    let part : List Item = gathered put.result.items
    (λ k. at_place (origin_at from.start c.deref.result.now (p + k)) (values_at inner registers (p + k))) in
    let now : lanes put.result.next (item_at None origins.items values.items)
    ≡ lanes put.result.next (item_at None put.new.origins put.new.values) =
    ap (λ (xs : List ℕ). lanes put.result.next (item_at None xs values.items)) origins_are
    ∙ ap (λ (ys : List ℤ). lanes put.result.next (item_at None put.new.origins ys)) values_are in
    let seen : trace (lanes from.live (item_at from.start c.deref.result.now from.values.items)) from.end
    ≡ c.args.batch.now = ap (λ (xs : List ℕ). trace (lanes from.live (item_at from.start xs from.values.items))
    from.end) c.deref.ensures.value ∙ c.batch.view_is in
    let sized : from.live ≤ length from.values.items =
    omega (arith, c.batch.invariant.live_lanes, c.batch.invariant.values_length) in (
      part,
      now ∙ put.ensures.put.put ∙ ap (λ (xs : List Item). xs ++ part) front,
      few_added stage inner env from.start c.deref.result.now from.values.items from.live registers p from.end
          c.args.batch.now put.result.items c.args.columns.lanes sized seen c.requires.lanes put.ensures.items
          put.ensures.put.valid operands,
    )
