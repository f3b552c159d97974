use Rattle.std.proofs.Common.{◌≡◌, ℕ, ◌<◌, ◌≤◌, if◌then◌else◌}
use Rattle.batch_eval.specs.Batches.{holds}
use Rattle.batch_eval.specs.Lanes.{at}
use Rattle.batch_eval.proofs.choose.select.Given as goal

abbrev pub invariant-loop-i : goal.invariant-loop-i
invariant-loop-i g l = ((k : ℕ) → k < l.i
    → at l.out k ≡ (if holds l.set (at l.xs k) then g.A.Lanes.number l.a (at l.fn.out k) k
    else g.B.Lanes.number l.b (at l.fn.out k) k)) × ((k : ℕ) → l.i ≤ k → at l.out k ≡ at l.fn.out k)
