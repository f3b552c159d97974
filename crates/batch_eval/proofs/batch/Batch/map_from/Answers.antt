use Rattle.std.proofs.Common.{◌≡◌, ◌<◌, ℕ, List, length, refl, ap, ◌∙◌, rules, arith}
use Rattle.std.proofs.lemmas.List.{places, with_items_is}
use Rattle.std.specs.Vec.{with_items}
use Rattle.lambda_values.specs.Term.{long_of}
use Rattle.lambda_values.specs.Value.{long_value}
use Rattle.lambda_values.specs.declared.item.Item.{Item}
use Rattle.trace.specs.declared.item.End.TheVariants as end
use Rattle.trace.specs.Trace.{trace}
use Rattle.batch_eval.specs.Batches.{item_at, laid_items, origin_at}
use Rattle.batch_eval.specs.Lanes.{at}
use Rattle.batch_eval.proofs.RowLemmas.{reaches_lanes}
use Rattle.batch_eval.proofs.Walks.{batch_mapped, lanes_same}
use Rattle.batch_eval.proofs.batch.Batch.map_from.Goals as goal

pub returns : goal.returns
returns c =
    let b = c.self.inside in
    let l = c.args.lanes in
    let xs = l.values.now in
    let os = l.places.now in
    let reached = c.eval_long-reached in
    let out = reached.new.out in
    let new_values = with_items b.values out in
    let new_origins = with_items b.origins c.copy_places.new.to in
    let images = with_items_is b.values out (search (rules, places)) in
    let places_are = with_items_is b.origins c.copy_places.new.to (search (rules, places)) in
    let place : (k : ℕ) → k < reached.result.live → origin_at l.start new_origins.items k ≡ origin_at l.start os k =
    λ k below. ap (λ (ys : List ℕ). origin_at l.start ys k) places_are
    ∙ c.copy_places.ensures.places k (omega (arith, below, reached.ensures.within)) in
    let image = long_of c.args.image.now in
    let env = c.args.line.env.now in
    let reaches = reaches_lanes l.start os os xs xs c.of.result c.of.ensures.place refl refl
    (λ x. long_value image x env) (at out) (length xs) reached.result reached.ensures in
    let same = lanes_same reached.result.live (item_at l.start new_origins.items new_values.items)
    (item_at l.start os new_values.items) (λ k below. let p = place k below in cc) in
    ap (λ (ys : List Item). trace ys c.stopped-self-inside.result) same
    ∙ batch_mapped env c.args.line.first (length xs) l.start os xs end.Done
    (trace (laid_items l.start os xs) end.Done) reached.result out image new_values.items os
    c.stopped-self-inside.result reaches images refl c.stopped-self-inside.ensures refl
