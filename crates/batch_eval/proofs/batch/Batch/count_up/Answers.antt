use Rattle.std.proofs.Common.{◌≡◌, ◌+◌, ℕ, ℤ, pos, List, Some, ap, ◌∙◌, rules, w64, to_z, of_z}
use Rattle.std.proofs.lemmas.List.{places, with_items_is}
use Rattle.lambda_values.specs.declared.item.Item.{Item}
use Rattle.trace.specs.declared.item.End.TheVariants as end
use Rattle.trace.specs.Trace.{trace}
use Rattle.batch_eval.specs.Batches.{counted_item, going_up, item_at}
use Rattle.batch_eval.proofs.PlaceLemmas.{lanes_counted}
use Rattle.batch_eval.proofs.ProgressionLemmas.{counts_up}
use Rattle.batch_eval.proofs.Walks.{lanes_same}
use Rattle.batch_eval.proofs.batch.Batch.count_up.Goals as goal

pub returns : goal.returns
returns c =
    let b = c.self.inside in
    let r = c.args.range.now in
    let out = c.list_numbers.new.values in
    let numbers = with_items_is b.values out (search (rules, places)) in
    let first : to_z w64 (of_z w64 r.first) ≡ r.first = search rules in
    let origins = b.origins.items in
    let g : ℕ → Item = item_at (Some r.origin) origins out in
    let same = lanes_same r.count g (counted_item r.origin r.first)
    (λ k below. let v = c.list_numbers.ensures k below ∙ ap (λ (z : ℤ). going_up z (pos 1) k) first
    ∙ counts_up r.first k (search rules) in
    (λ i. record { origin = r.origin + k; value = v i })) in
    rw numbers (ap (λ (xs : List Item). trace xs end.Done) (same ∙ lanes_counted r.origin r.first r.count r.in_range))
