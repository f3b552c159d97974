use Rattle.std.proofs.Common.{length}
use Rattle.batch_eval.proofs.batch.Batch.+sift.Given as goal

abbrev pub decreases-sift : goal.decreases-sift
decreases-sift l = length l.line.stages.now
