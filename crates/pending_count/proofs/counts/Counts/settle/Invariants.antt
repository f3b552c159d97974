use Rattle.pending_count.proofs.counts.Counts.settle.Given as goal

abbrev pub ghosts-settle_by : goal.ghosts-settle_by
ghosts-settle_by g a = record { nodes = a.self.now.nodes; actor = a.seat.token.id }
