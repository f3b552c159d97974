use Rattle.std.proofs.Common.{◌≡◌, ◌+◌, ◌<◌, ◌++◌, ℕ, ℤ, List, Some, None, length, ap, sym, ◌∙◌, rules, arith}
use Rattle.std.proofs.lemmas.List.{places, with_items_is}
use Rattle.std.specs.Vec.{with_items}
use Rattle.lambda_values.specs.declared.item.Item.{Item}
use Rattle.trace.specs.Trace.{Trace}
use Rattle.batch_eval.specs.Lanes.{at}
use Rattle.batch_eval.specs.Pours.{inner_items}
use Rattle.batch_eval.specs.Batches.{item_at, lanes, origin_at}
use Rattle.batch_eval.proofs.Items.{lanes_add, lanes_taken, length_lanes}
use Rattle.batch_eval.proofs.Walks.{lanes_same}
use Rattle.batch_eval.proofs.batch.Batch.add.Goals as goal

pub returns-clause-items : goal.returns-clause-items
returns-clause-items c =
    let b = c.self.inside in
    let n = c.args.count in
    let source = inner_items c.args.source.now in
    let listed = c.list_places.new.origins in
    let first = with_items b.origins listed in
    let first_is : first.items ≡ listed = with_items_is b.origins listed (search (rules, places)) in
    let added = c.list_values.new in
    let origins = with_items first added.origins in
    let origins_are : origins.items ≡ added.origins = with_items_is first added.origins (search (rules, places)) in
    let values = with_items b.values added.values in
    let values_are : values.items ≡ added.values = with_items_is b.values added.values (search (rules, places)) in
    let all : ℕ → Item = item_at None origins.items values.items in
    let old : ℕ → Item = item_at b.start b.origins.items b.values.items in
    let same : (k : ℕ) → all k ≡ item_at None added.origins added.values k =
    λ k. ap (λ (xs : List ℕ). item_at None xs values.items k) origins_are
    ∙ ap (λ (ys : List ℤ). item_at None added.origins ys k) values_are in
    let stays : (k : ℕ) → k < b.live → all k ≡ old k = λ k below.
    same k ∙ c.list_values.ensures.before k below
    ∙ ap (λ (xs : List ℕ). item_at None xs c.deref_mut-3.result.now k) (c.deref_mut-2.ensures.value ∙ first_is)
    ∙ ap (λ (ys : List ℤ). item_at None listed ys k) c.deref_mut-3.ensures.value
    ∙ ap (λ (o : ℕ). record { origin = o; value = at b.values.items k })
    (c.list_places.ensures k below ∙ ap (λ (xs : List ℕ). origin_at b.start xs k) c.deref_mut.ensures.value) in
    let part : List Item = lanes n (λ k. all (b.live + k)) in
    let front = lanes_same b.live all old stays ∙ ap (λ (t : Trace). t.items) c.self.view_is in
    let taken = lanes_taken source c.args.position n (λ k. all (b.live + k))
    (λ k below. c.list_values.ensures.items k below ∙ ap Some (sym (same (b.live + k)))) in
    (part, lanes_add b.live n all ∙ ap (λ (ys : List Item). ys ++ part) front, taken)

pub list_values-requires-clause-origins : goal.list_values-requires-clause-origins
list_values-requires-clause-origins c =
    let b = c.self.inside in
    let old : ℕ → Item = item_at b.start b.origins.items b.values.items in
    let same : length (lanes b.live old) ≡ length c.args.self.now.items =
    ap (λ (t : Trace). length t.items) c.self.view_is in
    let first_is = with_items_is b.origins c.list_places.new.origins (search (rules, places)) in
    let kept : length c.deref_mut-2.result.now ≡ length c.list_places.new.origins =
    ap length (c.deref_mut-2.ensures.value ∙ first_is) in
    let before : length c.deref_mut.result.now ≡ length b.origins.items = ap length c.deref_mut.ensures.value in
    omega (
      arith,
      length_lanes b.live old,
      same,
      kept,
      before,
      c.list_places.auto.origins,
      c.self.invariant.origins_length,
      c.requires.space,
    )

pub list_values-requires-clause-values : goal.list_values-requires-clause-values
list_values-requires-clause-values c =
    let b = c.self.inside in
    let old : ℕ → Item = item_at b.start b.origins.items b.values.items in
    let same : length (lanes b.live old) ≡ length c.args.self.now.items =
    ap (λ (t : Trace). length t.items) c.self.view_is in
    let kept : length c.deref_mut-3.result.now ≡ length b.values.items = ap length c.deref_mut-3.ensures.value in
    omega (arith, length_lanes b.live old, same, kept, c.self.invariant.values_length, c.requires.space)

pub invariant_of-self : goal.invariant_of-self
invariant_of-self c =
    let b = c.self.inside in
    let old : ℕ → Item = item_at b.start b.origins.items b.values.items in
    let same : length (lanes b.live old) ≡ length c.args.self.now.items =
    ap (λ (t : Trace). length t.items) c.self.view_is in
    let first = with_items b.origins c.list_places.new.origins in
    let first_is = with_items_is b.origins c.list_places.new.origins (search (rules, places)) in
    let kept : length c.deref_mut-2.result.now ≡ length c.list_places.new.origins =
    ap length (c.deref_mut-2.ensures.value ∙ first_is) in
    let before : length c.deref_mut.result.now ≡ length b.origins.items = ap length c.deref_mut.ensures.value in
    let values_before : length c.deref_mut-3.result.now ≡ length b.values.items =
    ap length c.deref_mut-3.ensures.value in
    let origins_are = ap length (with_items_is first c.list_values.new.origins (search (rules, places))) in
    let values_are = ap length (with_items_is b.values c.list_values.new.values (search (rules, places))) in
    record {
      live_lanes = omega (arith, length_lanes b.live old, same, c.requires.space);
      counts = tt;
      origins_length = omega (
        arith,
        origins_are,
        kept,
        before,
        c.list_places.auto.origins,
        c.list_values.auto.origins,
        c.self.invariant.origins_length,
      );
      values_length = omega (
        arith,
        values_are,
        values_before,
        c.list_values.auto.values,
        c.self.invariant.values_length,
      );
      spare_length = c.self.invariant.spare_length;
    }
