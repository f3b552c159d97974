use Rattle.std.proofs.Common.{[], ◌∷◌, subst}
use Rattle.trace.specs.declared.item.End.TheVariants as end
use Rattle.trace.specs.Trace.{Trace, trace, append}
use Rattle.reduce_ops.specs.Parts.{StandsFor}
use Rattle.job_routes.specs.Legs.{end_in}
use Rattle.job_plan.proofs.PartLemmas.{as_counted, one_counted, fold_goes_on}
use Rattle.job_plan.proofs.fold_part.FoldPartEndPart.push.Goals as goal

pub returns-clause-ok : goal.returns-clause-ok
returns-clause-ok c t =
    let p = c.args.self.now in
    let x = c.args.item in
    fold_goes_on (end_in c.args._last.end.now) c.args._last.number c.args._last.env.now p c.push.new.self t
    (trace (x ∷ []) end.Done) c.push.ensures.op
    (λ s. subst (λ (w : Trace). StandsFor c.push.new.self (append (as_counted p.counts t) w))
    (one_counted p.counts x c.counted.result c.counted.ensures) (c.push.ensures.stands (as_counted p.counts t) s))
