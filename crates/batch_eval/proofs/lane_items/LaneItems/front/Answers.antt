use Rattle.batch_eval.proofs.LaneLemmas.{front_items}
use Rattle.batch_eval.proofs.lane_items.LaneItems.front.Goals as goal

pub returns-clause-items : goal.returns-clause-items
returns-clause-items c = front_items c.args.start c.args.origins.now c.args.values.now c.args.live c.requires.values
