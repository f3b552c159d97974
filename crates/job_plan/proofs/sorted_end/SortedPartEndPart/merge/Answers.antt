use Rattle.job_plan.proofs.KeptLemmas.{sorts_merge}
use Rattle.job_plan.proofs.sorted_end.SortedPartEndPart.merge.Goals as goal

pub returns-in-Ok-clause-ok : goal.returns-in-Ok-clause-ok
returns-in-Ok-clause-ok c = sorts_merge c.args.self c.args.right c.append.new.self c.in-Ok.ensures.ok
