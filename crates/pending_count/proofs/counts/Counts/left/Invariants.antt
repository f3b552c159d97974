use Rattle.pending_count.proofs.counts.Counts.left.Given as goal

abbrev pub ghosts-left_by : goal.ghosts-left_by
ghosts-left_by g a = record { nodes = a.self.now.nodes; actor = a.seat.token.id }
