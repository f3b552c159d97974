use Rattle.std.proofs.Common.{◌≡◌, ℕ, ◌<◌, pos, IsTrue}
use Rattle.batch_eval.specs.Batches.{holds}
use Rattle.batch_eval.proofs.exact.lanes_pass.Given as goal

abbrev pub invariant-loop-i : goal.invariant-loop-i
invariant-loop-i g l = IsTrue l.same → (k : ℕ) → k < l.i → holds l.test (g.A.Lanes.number l.a (pos 0) k) ≡ l.wanted
