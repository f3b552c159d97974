use Rattle.batch_eval.proofs.LaneLemmas.{laid_values}
use Rattle.job_plan.proofs.exact_end.SumPartEndPart.push_all.Goals as goal

pub push_all-requires : goal.push_all-requires
push_all-requires c = record { values = laid_values c.args.lanes.start c.args.lanes.places.now c.args.lanes.values.now }
