use Rattle.std.proofs.Common.{length}
use Rattle.batch_eval.proofs.faultless.+after_stages.Given as goal

abbrev pub decreases-after_stages : goal.decreases-after_stages
decreases-after_stages l = length l.stages.now
