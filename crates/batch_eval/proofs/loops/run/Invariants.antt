use Rattle.std.proofs.Common.{◌≡◌, ℕ, ◌<◌, ◌≤◌, Ok}
use Rattle.batch_eval.specs.Lanes.{at}
use Rattle.batch_eval.proofs.loops.run.Given as goal

abbrev pub invariant-loop-i : goal.invariant-loop-i
invariant-loop-i g l = ((k : ℕ) → k < l.i
    → g.K.Kernel.value (g.A.Lanes.number l.a (at l.fn.out k) k) (g.B.Lanes.number l.b (at l.fn.out k) k)
    ≡ Ok (at l.out k)) × ((k : ℕ) → l.i ≤ k → at l.out k ≡ at l.fn.out k)
