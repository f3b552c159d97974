use Rattle.job_plan.proofs.FirstsLemmas.{firsts_merge}
use Rattle.job_plan.proofs.distinct_end.DistinctPartEndPart.merge.Goals as goal

pub returns-in-Ok-clause-ok : goal.returns-in-Ok-clause-ok
returns-in-Ok-clause-ok c = firsts_merge c.args.self c.args.right c.append.new.self c.in-Ok.ensures.ok
