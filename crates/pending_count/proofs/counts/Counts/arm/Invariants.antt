use Rattle.pending_count.proofs.counts.Counts.arm.Given as goal

abbrev pub ghosts-arm_by : goal.ghosts-arm_by
ghosts-arm_by g a = record {
  nodes = a.self.now.nodes;
  actor = a.seat.token.id;
  pending = a.pending;
  onward = a.onward.now;
  slot = 0;
}
