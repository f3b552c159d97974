use Rattle.std.proofs.Common.{◌≡◌, ◌*◌, ◌≤ℤ◌, neg_ℤ, pos, take}
use Rattle.reduce_ops.specs.Reaches.{reach_of}
use Rattle.reduce_ops.proofs.ExactLemmas.{reach}
use Rattle.reduce_ops.proofs.reaching.reach_of_small.Given as goal

abbrev pub invariant-loop-value : goal.invariant-loop-value
invariant-loop-value l =
    (reach l.total l.least l.greatest ≡ reach_of (take l.value-index l.values))
    × (neg_ℤ (pos (l.value-index * 562949953421312)) ≤ℤ l.least) × (l.greatest ≤ℤ pos (l.value-index * 562949953421312))
    × (l.least ≤ℤ l.total) × (l.total ≤ℤ l.greatest) × (l.least ≤ℤ pos 0) × (pos 0 ≤ℤ l.greatest)
