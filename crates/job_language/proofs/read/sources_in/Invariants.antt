use Rattle.std.proofs.Common.{◌≡◌, ◌+◌, ◌≤◌, List, drop}
use Rattle.lambda_expr.specs.Words.{Word}
use Rattle.job_language.specs.Shapes.{calls_in, sources_in}
use Rattle.job_language.proofs.read.sources_in.Given as goal

abbrev pub invariant-loop-call : goal.invariant-loop-call
invariant-loop-call l = (l.count ≤ l.call-index)
    × ((ws : List Word) → l.count + sources_in (calls_in ws (drop l.call-index l.calls))
    ≡ sources_in (calls_in ws l.calls))
