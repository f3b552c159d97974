use Rattle.std.proofs.Common.{[]}
use Rattle.batch_eval.proofs.PlaceLemmas.{lanes_placed}
use Rattle.batch_eval.proofs.batch_items.BatchItems.placed.Goals as goal

pub returns : goal.returns
returns c = lanes_placed c.args.origin [] c.args.values.now
