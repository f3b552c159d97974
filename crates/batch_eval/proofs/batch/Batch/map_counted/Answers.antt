use Rattle.std.proofs.Common.{◌≡◌, ℤ, List, sym, ap, ◌∙◌, subst, rules, w64, to_z, of_z}
use Rattle.std.proofs.lemmas.List.{places, with_items_is}
use Rattle.lambda_values.specs.Term.{long_of}
use Rattle.lambda_values.specs.Value.{long_value}
use Rattle.lambda_values.specs.declared.item.Item.{Item}
use Rattle.trace.specs.declared.item.End.TheVariants as end
use Rattle.trace.specs.Stages.{of_item}
use Rattle.trace.specs.Stages.{map as abstract_map}
use Rattle.trace.specs.Trace.{each}
use Rattle.batch_eval.specs.Lanes.{Reaches, at}
use Rattle.batch_eval.specs.Batches.{counted_item}
use Rattle.batch_eval.proofs.PlaceLemmas.{lanes_counted}
use Rattle.batch_eval.proofs.Walks.{each_mapped}
use Rattle.batch_eval.proofs.batch.Batch.map_counted.Goals as goal

pub returns : goal.returns
returns c = λ is.
    let b = c.self.inside in
    let out = c.eval_counted-counted.new.out in
    let r = c.args.range.now in
    let env = c.args.line.env.now in
    let image = long_of c.args.image.now in
    let same : to_z w64 (of_z w64 r.first) ≡ r.first = search rules in
    let reaches = subst (λ (z : ℤ). Reaches (λ k. long_value image (counted_item r.origin z k) env) (at out) r.count
    c.in-Some.reached) same c.in-Some.ensures in
    let images = with_items_is b.values out (search (rules, places)) in
    let one = each_mapped image env c.args.line.first r.count (counted_item r.origin r.first) (at out) c.in-Some.reached
    end.Done reaches in
    rw (images, c.stopped-self-inside.ensures)
    (sym (sym (ap (λ (xs : List Item). each (of_item c.args.line.first (abstract_map image) env) xs end.Done)
    (lanes_counted r.origin r.first r.count r.in_range)) ∙ one))
