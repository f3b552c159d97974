use Rattle.std.proofs.Common.{length}
use Rattle.batch_eval.proofs.inner_columns.+eval_each.Given as goal

abbrev pub decreases-eval_each : goal.decreases-eval_each
decreases-eval_each l = length l.operands.now
