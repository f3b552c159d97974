use Rattle.std.proofs.Common.{◌≡◌, ◌*◌, ◌-ℤ◌, ◌≤ℤ◌, neg_ℤ, pos, take}
use Rattle.reduce_ops.specs.Reaches.{reach_of}
use Rattle.reduce_ops.proofs.reaching.widest_of_small.Given as goal

abbrev pub invariant-loop-value : goal.invariant-loop-value
invariant-loop-value l =
    record {
      total : l.total ≡ (reach_of (take l.value-index l.values)).total;
      least : (l.total -ℤ l.rises) ≤ℤ (reach_of (take l.value-index l.values)).least;
      greatest : (reach_of (take l.value-index l.values)).greatest ≤ℤ l.rises;
      falls : (neg_ℤ (pos (l.value-index * 562949953421312)) ≤ℤ (l.total -ℤ l.rises)) × ((l.total -ℤ l.rises) ≤ℤ pos 0);
      rises : (pos 0 ≤ℤ l.rises) × (l.rises ≤ℤ pos (l.value-index * 562949953421312));
    }
