use Rattle.std.proofs.Common.{length}
use Rattle.batch_eval.proofs.batch.Batch.+go_on.Given as goal

abbrev pub decreases-go_on : goal.decreases-go_on
decreases-go_on l = length l.line.stages.now
