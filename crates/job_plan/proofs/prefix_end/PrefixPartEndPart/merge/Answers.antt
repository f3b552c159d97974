use Rattle.job_plan.proofs.PartLemmas.{prefixes_merge}
use Rattle.job_plan.proofs.prefix_end.PrefixPartEndPart.merge.Goals as goal

pub returns-in-Ok-clause-ok : goal.returns-in-Ok-clause-ok
returns-in-Ok-clause-ok c e n env a b =
    prefixes_merge e n env a b c.args.self c.args.right c.append.new.self c.in-Ok.ensures.ok
