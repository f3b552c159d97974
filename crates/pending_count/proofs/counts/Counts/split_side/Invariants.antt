use Rattle.std.proofs.Common.{[], ◌∷◌}
use Rattle.pending_count.specs.Pairs.{slot_of}
use Rattle.pending_count.proofs.counts.Counts.split_side.Given as goal

abbrev pub ghosts-split_side_by : goal.ghosts-split_side_by
ghosts-split_side_by g a = record { node = a.node; arrivals = 1; credit = a.credit; sides = slot_of a.node a.side ∷ [] }
