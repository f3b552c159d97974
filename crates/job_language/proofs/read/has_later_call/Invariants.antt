use Rattle.std.proofs.Common.{◌≡◌, List, drop}
use Rattle.lambda_expr.specs.Words.{Word}
use Rattle.job_language.specs.Causes.{has_later_call}
use Rattle.job_language.specs.Shapes.{calls_in}
use Rattle.job_language.proofs.read.has_later_call.Given as goal

abbrev pub invariant-loop-call : goal.invariant-loop-call
invariant-loop-call l = (ws : List Word)
    → has_later_call l.version (calls_in ws l.calls)
    ≡ has_later_call l.version (calls_in ws (drop l.call-index l.calls))
