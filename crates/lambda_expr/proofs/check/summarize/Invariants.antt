use Rattle.std.proofs.Common.{◌≡◌, [], take}
use Rattle.lambda_expr.specs.Summaries.{summary_steps}
use Rattle.lambda_expr.specs.Stacks.{stacked}
use Rattle.lambda_expr.proofs.check.summarize.Given as goal

-- the stack summarizes the steps so far
abbrev pub invariant-loop-step : goal.invariant-loop-step
invariant-loop-step l = l.stack.items ≡ stacked (summary_steps l.parameters [] (take l.step-index l.steps))
