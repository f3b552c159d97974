use Rattle.std.proofs.Common.{refl, sym, ◌∙◌}
use Rattle.trace.specs.declared.item.End.TheVariants as end
use Rattle.trace.specs.Trace.{trace}
use Rattle.reduce_ops.specs.Folds.{ones}
use Rattle.job_plan.proofs.CountLemmas.{counted_end}
use Rattle.job_plan.proofs.fold_part.FoldPart.of_count.Goals as goal

pub returns : goal.returns
returns c = λ t size last. record {
  start = refl;
  op = c.end_with.ensures.op ∙ c.sum_of_ones-partial.ensures.op ∙ sym c.requires.adds;
  counting = refl;
  stands = counted_end c.end_with.new.self t c.args.fold.counts c.args.ending c.requires.counts last
      (c.end_with.ensures.stands (trace (ones t.items) end.Done) (c.sum_of_ones-partial.ensures.stands t.items size));
}
