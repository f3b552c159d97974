use Rattle.std.proofs.Common.{length}
use Rattle.batch_eval.proofs.inner_columns.+rest_fits.Given as goal

abbrev pub decreases-rest_fits : goal.decreases-rest_fits
decreases-rest_fits l = length l.stages.now
