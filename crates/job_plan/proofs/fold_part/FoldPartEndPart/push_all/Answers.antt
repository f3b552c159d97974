use Rattle.std.proofs.Common.{◌∙◌}
use Rattle.batch_eval.proofs.LaneLemmas.{laid_values}
use Rattle.batch_eval.specs.Batches.{laid_items}
use Rattle.trace.specs.declared.item.End.TheVariants as end
use Rattle.trace.specs.Trace.{trace}
use Rattle.job_routes.specs.Legs.{end_in}
use Rattle.job_plan.proofs.PartLemmas.{as_counted, fold_goes_on}
use Rattle.job_plan.proofs.fold_part.FoldPartEndPart.push_all.Goals as goal

pub returns-clause-ok : goal.returns-clause-ok
returns-clause-ok c t =
    let p = c.args.self.now in
    let l = c.args.lanes in
    let u = trace (laid_items l.start l.places.now l.values.now) end.Done in
    fold_goes_on (end_in c.args._last.end.now) c.args._last.number c.args._last.env.now p c.merge-self.result t u
    c.merge-self.ensures.op
    (λ s. c.merge-self.ensures.stands (as_counted p.counts t) (as_counted p.counts u)
    (c.folded-right.ensures.op ∙ c.op.ensures) s
    (c.folded-right.ensures.stands u.items (laid_values l.start l.places.now l.values.now)))
