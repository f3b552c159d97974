use Rattle.std.proofs.Common.{[], take}
use Rattle.lambda_expr.specs.Reader.{wants, reads}
use Rattle.lambda_expr.specs.Codes.{IsAt}
use Rattle.lambda_expr.proofs.parse.parse.Given as goal

abbrev pub invariant-loop-at : goal.invariant-loop-at
invariant-loop-at l = IsAt l.stack l.steps.items l.held (reads (wants []) (take l.at l.words))
