use Rattle.std.proofs.Common.{ℕ, ◌+◌, ◌*◌}
use Rattle.std.specs.Prelude.{max}
use Rattle.lambda_values.specs.declared.expr.LongExpr.{size-LongExpr}
use Rattle.lambda_values.specs.declared.expr.BoolExpr.{size-BoolExpr}
use Rattle.batch_eval.specs.declared.register.Operand.{Operand}
use Rattle.batch_eval.specs.declared.register.Operand.TheVariants as operand
use Rattle.batch_eval.proofs.+register.Given as goal

abbrev size : Operand → ℕ
size (operand.Long e) = size-LongExpr e.now
size (operand.Bool p) = size-BoolExpr p.now
size (operand.Flag b) = 0

-- an operator's operands are called between it and them
abbrev pub decreases-register::eval_long : goal.decreases-register::eval_long
decreases-register::eval_long l = 8 * size-LongExpr l.expr.now

abbrev pub decreases-register::eval_bool : goal.decreases-register::eval_bool
decreases-register::eval_bool l = 8 * size-BoolExpr l.test.now

abbrev pub decreases-register::eval_held : goal.decreases-register::eval_held
decreases-register::eval_held l = 8 * size-LongExpr l.expr.now + 1

abbrev pub decreases-register::eval_before_number : goal.decreases-register::eval_before_number
decreases-register::eval_before_number l = 8 * size-LongExpr l.a.now + 2

abbrev pub decreases-register::eval_flags : goal.decreases-register::eval_flags
decreases-register::eval_flags l = 8 * size-LongExpr l.expr.now + 2

abbrev pub decreases-register::eval_operand : goal.decreases-register::eval_operand
decreases-register::eval_operand l = 8 * size l.operand + 2

abbrev pub decreases-register::eval_branch : goal.decreases-register::eval_branch
decreases-register::eval_branch l = 8 * size l.operand + 2

abbrev pub decreases-register::eval_between : goal.decreases-register::eval_between
decreases-register::eval_between l = 8 * max (size-LongExpr l.pair.now.left) (size-LongExpr l.pair.now.right) + 4

abbrev pub decreases-register::eval_compared : goal.decreases-register::eval_compared
decreases-register::eval_compared l = 8 * max (size-LongExpr l.pair.now.left) (size-LongExpr l.pair.now.right) + 5

abbrev pub decreases-register::eval_connected : goal.decreases-register::eval_connected
decreases-register::eval_connected l = 8 * max (size-BoolExpr l.pair.now.left) (size-BoolExpr l.pair.now.right) + 6

abbrev pub decreases-choice::eval_chosen : goal.decreases-choice::eval_chosen
decreases-choice::eval_chosen l = 8 * max (size-BoolExpr l.condition.now)
    (max (size l.either.chosen) (size l.either.other)) + 5

abbrev pub decreases-choice::eval_tested : goal.decreases-choice::eval_tested
decreases-choice::eval_tested l = 8 * max (size l.either.chosen) (size l.either.other) + 4

abbrev pub decreases-choice::eval_parted : goal.decreases-choice::eval_parted
decreases-choice::eval_parted l = 8 * max (size l.either.chosen) (size l.either.other) + 3

abbrev pub decreases-choice::eval_both : goal.decreases-choice::eval_both
decreases-choice::eval_both l = 8 * max (size l.either.chosen) (size l.either.other) + 3
