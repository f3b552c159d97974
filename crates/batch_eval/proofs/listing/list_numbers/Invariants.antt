use Rattle.std.proofs.Common.{◌≡◌, ℕ, ◌<◌}
use Rattle.batch_eval.specs.Batches.{going_up}
use Rattle.batch_eval.specs.Lanes.{at}
use Rattle.batch_eval.proofs.listing.list_numbers.Given as goal

abbrev pub invariant-loop-lane : goal.invariant-loop-lane
invariant-loop-lane l = (l.number ≡ going_up l.first l.by l.lane)
    × ((k : ℕ) → k < l.lane → at l.values k ≡ going_up l.first l.by k)
