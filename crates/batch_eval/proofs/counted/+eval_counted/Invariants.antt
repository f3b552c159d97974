use Rattle.lambda_values.specs.declared.expr.LongExpr.{size-LongExpr}
use Rattle.batch_eval.proofs.counted.+eval_counted.Given as goal

abbrev pub decreases-eval_counted : goal.decreases-eval_counted
decreases-eval_counted l = size-LongExpr l.expr.now
