use Rattle.std.proofs.Common.{length}
use Rattle.batch_eval.proofs.batch.Batch.+map_all.Given as goal

abbrev pub decreases-map_all : goal.decreases-map_all
decreases-map_all l = length l.line.stages.now
