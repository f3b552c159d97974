use Rattle.std.proofs.Common.{[]}
use Rattle.pending_count.proofs.counts.Counts.split.Given as goal

abbrev pub ghosts-split_by : goal.ghosts-split_by
ghosts-split_by g a = record { node = a.node; arrivals = a.k; credit = a.credit; sides = [] }
