use Rattle.std.proofs.Common.{length}
use Rattle.lambda_expr.specs.Reader.{joins}
use Rattle.lambda_expr.specs.Codes.{top_of}
use Rattle.lambda_expr.proofs.JoinLemmas.{IsJoining}
use Rattle.lambda_expr.proofs.parse.join.Given as goal

abbrev pub invariant-loop-top : goal.invariant-loop-top
invariant-loop-top l = IsJoining (joins l.least (top_of l.initial.stack l.initial.steps.items)) l.least l.stack
    l.steps.items

abbrev pub decreases-loop-top : goal.decreases-loop-top
decreases-loop-top l = length l.stack
