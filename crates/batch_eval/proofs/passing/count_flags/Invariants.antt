use Rattle.std.proofs.Common.{◌≡◌, ◌<◌, ℕ}
use Rattle.batch_eval.specs.Lanes.{at, is_set}
use Rattle.batch_eval.proofs.passing.count_flags.Given as goal

abbrev pub invariant-loop-lane : goal.invariant-loop-lane
invariant-loop-lane l = (k : ℕ) → k < l.lane → is_set (at l.flags k) ≡ l.wanted
