use Rattle.std.proofs.Common.{◌+◌, drop}
use Rattle.lambda_expr.specs.CodeWords.{words_in}
use Rattle.job_language.proofs.Ends.{IsFitting}
use Rattle.job_language.proofs.call.fit.Given as goal

abbrev pub invariant-loop-at : goal.invariant-loop-at
invariant-loop-at l = IsFitting l.operation (drop (l.opened + 1) (words_in l.text)) l.ends l.at l.from
