use Rattle.pending_count.proofs.counts.Counts.arrive.Given as goal

abbrev pub ghosts-arrive_by : goal.ghosts-arrive_by
ghosts-arrive_by g a = record { nodes = a.self.now.nodes; actor = a.seat.token.id }
