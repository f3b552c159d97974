use Rattle.std.proofs.Common.{◌≡◌, ◌∙◌, [], List, add-one, ap, length, refl, subst, sym}
use Rattle.lambda_values.specs.declared.item.Item.{Item}
use Rattle.batch_eval.specs.Batches.{item_at}
use Rattle.batch_eval.specs.BatchItems.{laid}
use Rattle.batch_eval.specs.Pipelines.{AreImages}
use Rattle.batch_eval.proofs.Items.{length_lanes}
use Rattle.batch_eval.proofs.SetItemLemmas.{none_left}
use Rattle.batch_eval.proofs.feeding.feed_in_place.Goals as goal

pub returns-clause-fed : goal.returns-clause-fed
returns-clause-fed g c = λ xs took. rw c.begin-later.ensures.walk at (c.feed_space.ensures.fed xs took)

pub returns-then-is_empty-clause-fed : goal.returns-then-is_empty-clause-fed
returns-then-is_empty-clause-fed g c = λ xs took.
    let split = c.in-Some.ensures in
    let later = c.in-Some.later in
    let last : later.stages.now ≡ [] = none_left later.stages.now (sym c.is_empty.ensures ∙ c.if-is_empty.true) in
    let none : AreImages later (laid c.args.lanes) (laid c.args.lanes) = λ flags e. rw last refl in
    let fed = rw (split.first, split.env, add-one) at (c.give_passing.ensures.fed later none xs took) in
    rw (split.stages, c.in-Filter.is) fed

pub invariant_of-tested-then-map_lanes : goal.invariant_of-tested-then-map_lanes
invariant_of-tested-then-map_lanes g c =
    let i = c.lanes-images.result in
    record {
      each_has_one = sym (length_lanes (length i.values.now) (item_at i.start i.places.now i.values.now))
          ∙ ap length c.lanes-images.ensures ∙ c.if-map_lanes.ensures.count refl;
    }

pub returns-then-map_lanes-clause-fed : goal.returns-then-map_lanes-clause-fed
returns-then-map_lanes-clause-fed g c = λ xs took.
    let split = c.in-Some.ensures in
    let later = c.in-Some.later in
    let images : AreImages later (laid c.args.lanes) (laid c.lanes-images.result) =
    subst (λ (ys : List Item). AreImages later (laid c.args.lanes) ys) (sym c.lanes-images.ensures)
    (c.if-map_lanes.ensures.images refl) in
    let fed = rw (split.first, split.env, add-one) at
    (c.give_passing-then-map_lanes.ensures.fed later images xs took) in
    rw (split.stages, c.in-Filter.is) fed
