use Rattle.pending_count.proofs.counts.Counts.claim.Given as goal

abbrev pub ghosts-claim_by : goal.ghosts-claim_by
ghosts-claim_by g a = record { nodes = a.self.now.nodes; actor = a.seat.token.id }
