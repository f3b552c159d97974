use Rattle.std.proofs.Common.{◌+◌, drop}
use Rattle.lambda_expr.specs.CodeWords.{words_in}
use Rattle.job_language.specs.Splitting.{IsAt}
use Rattle.job_language.proofs.call.split.Given as goal

abbrev pub invariant-loop-at : goal.invariant-loop-at
invariant-loop-at l = IsAt (drop (l.opened + 1) (words_in l.text)) l.at l.depth l.ends.items
