use Rattle.batch_eval.proofs.LaneLemmas.{laid_values}
use Rattle.job_plan.proofs.prefix_end.PrefixPartEndPart.push_all.Goals as goal

pub push_all-requires-clause-values : goal.push_all-requires-clause-values
push_all-requires-clause-values c = laid_values c.args.lanes.start c.args.lanes.places.now c.args.lanes.values.now
