use Rattle.std.proofs.Common.{ap, ◌∙◌}
use Rattle.trace.specs.declared.item.End.TheVariants as end
use Rattle.trace.specs.Trace.{trace}
use Rattle.job_plan.specs.Parts.{is_fault}
use Rattle.prefix_walks.proofs.BatchLemmas.{merged_end}
use Rattle.job_plan.proofs.PartLemmas.{as_counted, fold_goes_on}
use Rattle.job_plan.proofs.fold_part.FoldPartEndPart.push_run.Goals as goal

pub returns-in-Some-clause-taken : goal.returns-in-Some-clause-taken
returns-in-Some-clause-taken c = λ yes e n env t xs same.
    let p = c.args.self.now in
    let u = trace xs end.Done in
    fold_goes_on e n env p c.merge-self.result t u c.merge-self.ensures.op
    (λ s. c.merge-self.ensures.stands (as_counted p.counts t) (as_counted p.counts u)
    (c.in-Some.ensures.op ∙ c.op.ensures) s (c.in-Some.ensures.stands xs same))

pub returns-in-Some-clause-open : goal.returns-in-Some-clause-open
returns-in-Some-clause-open c =
    ap is_fault (merged_end c.args.self.now.partial c.in-Some.right c.merge-self.result c.merge-self.ensures.stands
    (c.in-Some.ensures.op ∙ c.op.ensures) c.in-Some.ensures.ending)
    ∙ c.requires
