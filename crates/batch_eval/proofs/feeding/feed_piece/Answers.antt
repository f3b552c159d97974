use Rattle.std.proofs.Common.{◌+◌, List, ◌++◌, length, take, drop, sym, ap, ◌∙◌, arith}
use Rattle.std.proofs.lemmas.List.{length-take}
use Rattle.trace.specs.Cover.{counted}
use Rattle.trace.proofs.Sources.{length-counted, length-placed}
use Rattle.lambda_values.specs.declared.item.Item.{Item}
use Rattle.trace.specs.Stages.{stages_of}
use Rattle.batch_eval.specs.BatchItems.{batch_items}
use Rattle.batch_eval.specs.declared.batch_items.BatchItems.TheVariants as items
use Rattle.batch_eval.proofs.BatchWalkLemmas.{IsFed_more}
use Rattle.batch_eval.proofs.Items.{taken_more}
use Rattle.batch_eval.proofs.LaneLemmas.{length_laid}
use Rattle.batch_eval.proofs.feeding.feed_piece.Goals as goal

pub feed_in_place-requires-clause-lanes : goal.feed_in_place-requires-clause-lanes
feed_in_place-requires-clause-lanes g c =
    let lanes = c.in-Lanes.lanes in
    let same = sym (ap batch_items c.in-Lanes.is) ∙ c.part.ensures in
    let few = ap length same ∙ length-take c.args.count (drop c.args.position (batch_items c.args.items.now)) in
    omega (arith, few, length_laid lanes.start lanes.places.now lanes.values.now, c.requires.lanes)

pub feed_range-requires-clause-lanes : goal.feed_range-requires-clause-lanes
feed_range-requires-clause-lanes g c =
    let r = c.in-Range.range in
    let same = sym (ap batch_items c.in-Range.is) ∙ c.part.ensures in
    let few = ap length same ∙ length-take c.args.count (drop c.args.position (batch_items c.args.items.now)) in
    omega (
      arith,
      few,
      length-placed r.origin (counted r.first r.count),
      length-counted r.first r.count,
      c.requires.lanes,
    )

pub returns-in-Lanes-clause-fed : goal.returns-in-Lanes-clause-fed
returns-in-Lanes-clause-fed g c = λ xs so_far.
    let all = batch_items c.args.items.now in
    let p = c.args.position in
    let here = sym (ap batch_items c.in-Lanes.is) ∙ c.part.ensures in
    let taken = taken_more all p c.args.count ∙ ap (λ (ys : List Item). take p all ++ ys) (sym here) in
    IsFed_more g.S.LongSink.has_taken c.args.line.first (stages_of c.args.line.stages.now) c.args.line.env.now xs
    (take p all) (batch_items (items.Lanes c.in-Lanes.lanes)) (take (p + c.args.count) all) c.feed_in_place.result
    c.args.sink.now c.feed_in_place.new.sink taken so_far c.feed_in_place.ensures.fed

pub returns-in-Range-clause-fed : goal.returns-in-Range-clause-fed
returns-in-Range-clause-fed g c = λ xs so_far.
    let all = batch_items c.args.items.now in
    let p = c.args.position in
    let here = sym (ap batch_items c.in-Range.is) ∙ c.part.ensures in
    let taken = taken_more all p c.args.count ∙ ap (λ (ys : List Item). take p all ++ ys) (sym here) in
    IsFed_more g.S.LongSink.has_taken c.args.line.first (stages_of c.args.line.stages.now) c.args.line.env.now xs
    (take p all) (batch_items (items.Range c.in-Range.range)) (take (p + c.args.count) all) c.feed_range.result
    c.args.sink.now c.feed_range.new.sink taken so_far c.feed_range.ensures.fed
