use Rattle.std.proofs.Common.{◌+◌, ◌*◌}
use Rattle.std.specs.Prelude.{max}
use Rattle.lambda_values.specs.declared.expr.LongExpr.{size-LongExpr}
use Rattle.lambda_values.specs.declared.expr.BoolExpr.{size-BoolExpr}
use Rattle.batch_eval.proofs.room.+fits.Given as goal

abbrev pub decreases-fits : goal.decreases-fits
decreases-fits l = 2 * size-LongExpr l.expr.now

abbrev pub decreases-test_fits : goal.decreases-test_fits
decreases-test_fits l = 2 * size-BoolExpr l.test.now

abbrev pub decreases-both_fit : goal.decreases-both_fit
decreases-both_fit l = 2 * max (size-LongExpr l.a.now) (size-LongExpr l.b.now) + 1
