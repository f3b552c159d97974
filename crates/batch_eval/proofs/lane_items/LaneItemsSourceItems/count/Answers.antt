use Rattle.std.proofs.Common.{sym}
use Rattle.batch_eval.proofs.LaneLemmas.{length_laid}
use Rattle.batch_eval.proofs.lane_items.LaneItemsSourceItems.count.Goals as goal

pub returns : goal.returns
returns c = let l = c.args.self.now in sym (length_laid l.start l.places.now l.values.now)
