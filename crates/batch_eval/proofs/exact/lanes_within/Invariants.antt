use Rattle.std.proofs.Common.{ℕ, ◌<◌, ◌≤◌, FitsSigned, w64}
use Rattle.batch_eval.specs.Lanes.{at, gap}
use Rattle.batch_eval.proofs.exact.lanes_within.Given as goal

abbrev pub invariant-loop-i : goal.invariant-loop-i
invariant-loop-i g l = (k : ℕ) → k < l.i → (gap l.least (g.A.Lanes.number l.a (at l.out k) k) ≤ l.bits)
    × FitsSigned w64 (g.A.Lanes.number l.a (at l.out k) k)
