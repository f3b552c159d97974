use Rattle.std.proofs.Common.{◌≡◌, [], take}
use Rattle.lambda_expr.specs.Elaborating.{operands_of, typed_steps}
use Rattle.lambda_expr.specs.Lexemes.{names_in}
use Rattle.lambda_expr.specs.Stacks.{stacked}
use Rattle.lambda_expr.proofs.elaborate.elaborate.Given as goal

-- the stack has the typed expressions of the steps so far
abbrev pub invariant-loop-step : goal.invariant-loop-step
invariant-loop-step l = operands_of l.stack.items
    ≡ stacked (typed_steps (names_in l.text.bytes l.text.tokens) [] (take l.step-index l.steps))
