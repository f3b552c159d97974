use Rattle.std.proofs.Common.{◌≡◌, drop}
use Rattle.lambda_expr.specs.BodyReading.{found_in, no_operands}
use Rattle.lambda_expr.specs.SourceReading.{steps_of}
use Rattle.lambda_expr.proofs.stream.check.Given as goal

-- the checks so far, and the checks of the operands that are left
abbrev pub invariant-loop-operand : goal.invariant-loop-operand
invariant-loop-operand l = found_in l.checks (steps_of (drop l.operand-index l.operands))
    ≡ found_in no_operands (steps_of l.operands)
