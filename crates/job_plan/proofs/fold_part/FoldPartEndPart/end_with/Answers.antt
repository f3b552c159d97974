use Rattle.std.proofs.Common.{[], sym, subst}
use Rattle.trace.specs.Trace.{Trace, trace, append}
use Rattle.reduce_ops.specs.Parts.{StandsFor}
use Rattle.job_plan.proofs.PartLemmas.{as_counted, end_counted, fold_goes_on}
use Rattle.job_plan.proofs.fold_part.FoldPartEndPart.end_with.Goals as goal

pub returns-clause-stands : goal.returns-clause-stands
returns-clause-stands c = λ e n env t.
    let p = c.args.self.now in
    fold_goes_on e n env p c.end_with.new.self t (trace [] c.args.ending) c.end_with.ensures.op
    (λ s. subst (λ (w : Trace). StandsFor c.end_with.new.self (append (as_counted p.counts t) w))
    (sym (end_counted p.counts c.args.ending)) (c.end_with.ensures.stands (as_counted p.counts t) s))
