use Rattle.pending_count.proofs.counts.Counts.add.Given as goal

abbrev pub ghosts-add_by : goal.ghosts-add_by
ghosts-add_by g a = record { nodes = a.self.now.nodes; actor = a.seat.token.id }
