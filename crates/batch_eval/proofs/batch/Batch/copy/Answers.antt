use Rattle.std.proofs.Common.{◌≡◌, ℕ, ◌<◌, ℤ, List, length, get_or, pos, sym, ap, ◌∙◌, rules}
use Rattle.std.proofs.lemmas.List.{get_or-take, places, with_items_is}
use Rattle.std.specs.Vec.{with_items}
use Rattle.lambda_values.specs.declared.item.Item.{Item}
use Rattle.trace.specs.declared.item.End.TheVariants as end
use Rattle.trace.specs.Trace.{trace}
use Rattle.batch_eval.specs.Lanes.{at}
use Rattle.batch_eval.specs.Batches.{item_at, origin_at}
use Rattle.batch_eval.proofs.Walks.{lanes_same}
use Rattle.batch_eval.proofs.batch.Batch.copy.Goals as goal

pub returns : goal.returns
returns c =
    let b = c.self.inside in
    let l = c.args.lanes in
    let xs = l.values.now in
    let os = l.places.now in
    let n = length xs in
    let values = c.copy_front.new.to in
    let origins = c.copy_places.new.to in
    let values_are = with_items_is b.values values (search (rules, places)) in
    let origins_are = with_items_is b.origins origins (search (rules, places)) in
    let new_values = with_items b.values values in
    let new_origins = with_items b.origins origins in
    let value : (k : ℕ) → k < n → at new_values.items k ≡ at xs k =
    λ k below. ap (λ (ys : List ℤ). at ys k) values_are ∙ sym (get_or-take n values k (pos 0) below)
    ∙ ap (λ (ys : List ℤ). get_or ys k (pos 0)) c.copy_front.ensures.front in
    let origin : (k : ℕ) → k < n → origin_at l.start new_origins.items k ≡ origin_at l.start os k =
    λ k below. ap (λ (ys : List ℕ). origin_at l.start ys k) origins_are ∙ c.copy_places.ensures.places k below in
    let same = lanes_same n (item_at l.start new_origins.items new_values.items) (item_at l.start os xs)
    (λ k below. let a = value k below in let o = origin k below in cc) in
    ap (λ (ys : List Item). trace ys end.Done) same
