use Rattle.std.proofs.Common.{ℕ, ◌+◌, drop}
use Rattle.lambda_expr.specs.HeadReading.{IsMatched}
use Rattle.lambda_expr.proofs.head.matched.Given as goal

-- the words up to here are what their marks want
abbrev pub invariant-loop-at : goal.invariant-loop-at
invariant-loop-at l = (k : ℕ) → IsMatched (drop l.at l.pattern) (drop l.at l.words) k
    → IsMatched l.pattern l.words (l.at + k)
