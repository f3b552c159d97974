use Rattle.std.proofs.Common.{◌≡◌, ℤ, pos, get_or, w64, to_z, of_z, sym, ap, ◌∙◌, rules}
use Rattle.reduce_ops.specs.Operators.{value_of}
use Rattle.prefix_walks.specs.Batches.{each_one}
use Rattle.prefix_walks.proofs.BatchLemmas.{one_more_folded}
use Rattle.prefix_walks.proofs.folding.fold_from.Goals as goal

pub loop-value-preserved : goal.loop-value-preserved
loop-value-preserved c =
    let op = c.args.op in
    let folded = c.loop-value.folded in
    let here = get_or c.args.values.now c.loop-value.value-index (pos 0) in
    let fits : to_z w64 (of_z w64 c.apply-folded.result) ≡ c.apply-folded.result = search rules in
    let value_fits : to_z w64 (of_z w64 here) ≡ here = search rules in
    let counted_fits : to_z w64 (of_z w64 c.counted_value.result) ≡ c.counted_value.result = search rules in
    let value : c.counted_value.result ≡ each_one c.args.counts here =
    c.counted_value.ensures ∙ ap (each_one c.args.counts) value_fits in
    let step : to_z w64 (of_z w64 c.apply-folded.result) ≡ value_of op folded c.counted_value.result =
    fits ∙ c.apply-folded.ensures ∙ ap (λ (b : ℤ). value_of op b (to_z w64 (of_z w64 c.counted_value.result)))
    c.loop-value.folded-is ∙ ap (value_of op folded) counted_fits in
    one_more_folded (value_of op) c.args.counts (to_z w64 (of_z w64 c.args.start)) c.args.values.now
    c.loop-value.value-index folded c.counted_value.result (to_z w64 (of_z w64 c.apply-folded.result))
    c.loop-value-test.true (sym c.loop-value.folded-is ∙ c.loop-value.invariant) value step
