use Rattle.job_plan.proofs.PartLemmas.{as_counted, folds_merge}
use Rattle.job_plan.proofs.fold_part.FoldPartEndPart.merge.Goals as goal

pub returns-clause-ok : goal.returns-clause-ok
returns-clause-ok c e n env t u =
    let p = c.args.self in
    folds_merge e n env p c.args.right c.merge.result t u c.merge.ensures.op
    (c.merge.ensures.stands (as_counted p.counts t) (as_counted p.counts u))
