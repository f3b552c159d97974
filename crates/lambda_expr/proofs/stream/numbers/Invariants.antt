use Rattle.std.proofs.Common.{◌≡◌, drop}
use Rattle.lambda_expr.specs.BodyReading.{after_numbers, step_numbers}
use Rattle.lambda_expr.specs.Lexemes.{names_in}
use Rattle.lambda_expr.specs.SourceReading.{steps_of}
use Rattle.lambda_values.specs.Streams.{exprs_of}
use Rattle.lambda_expr.proofs.stream.numbers.Given as goal

-- the numbers so far, and the numbers of the operands that are left
abbrev pub invariant-loop-operand : goal.invariant-loop-operand
invariant-loop-operand l = after_numbers (exprs_of l.exprs.items)
    (step_numbers (names_in l.text.bytes l.text.tokens) (steps_of (drop l.operand-index l.operands)))
    ≡ step_numbers (names_in l.text.bytes l.text.tokens) (steps_of l.operands)
