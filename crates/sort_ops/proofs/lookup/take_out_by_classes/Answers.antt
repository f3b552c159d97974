use Rattle.std.proofs.Common.{Some, subst, ◌∙◌, arith}
use Rattle.sort_ops.specs.NewValues.{AreOnce}
use Rattle.sort_ops.proofs.NewLemmas.{all_once, last_or_before}
use Rattle.sort_ops.proofs.lookup.take_out_by_classes.Goals as goal

pub loop-class-preserved : goal.loop-class-preserved
loop-class-preserved c =
    let k = c.loop-class.class in
    let made = c.none-lookup in
    let now : AreOnce (Some k) c.take_out.new.items.items =
    subst (λ l. AreOnce l c.take_out.new.items.items) made.ensures.class
    (c.take_out.ensures.once c.if-lookup.false tt) in
    record {
      firsts = c.take_out.ensures.firsts ∙ c.loop-class.invariant.firsts;
      once = λ d less. last_or_before k d less (λ l. AreOnce (Some l) c.take_out.new.items.items) now
          (λ before. c.take_out.ensures.others (Some d) (c.loop-class.invariant.once d before));
    }

pub returns-clause-once : goal.returns-clause-once
returns-clause-once c = all_once c.loop-class.items.items
    (λ d less. c.loop-class.invariant.once d (omega (arith, less, c.loop-class-test.false)))
