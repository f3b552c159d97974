use Rattle.std.proofs.Common.{length}
use Rattle.batch_eval.proofs.faultless.+are_maps.Given as goal

abbrev pub decreases-are_maps : goal.decreases-are_maps
decreases-are_maps l = length l.stages.now
