use Rattle.std.proofs.Common.{◌≡◌, ℕ, ◌<◌, ◌≤◌, Ok}
use Rattle.batch_eval.specs.Lanes.{at}
use Rattle.batch_eval.proofs.loops.divide.Given as goal

abbrev pub invariant-loop-i : goal.invariant-loop-i
invariant-loop-i g l = ((k : ℕ) → k < l.i
    → g.D.Division.value (g.A.Lanes.number l.a (at l.fn.out k) k) (g.R.Divisor.number l.by) ≡ Ok (at l.out k))
    × ((k : ℕ) → l.i ≤ k → at l.out k ≡ at l.fn.out k)
