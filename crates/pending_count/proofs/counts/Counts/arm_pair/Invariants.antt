use Rattle.pending_count.specs.Views.{kept_slot}
use Rattle.pending_count.proofs.counts.Counts.arm_pair.Given as goal

abbrev pub ghosts-arm_pair_by : goal.ghosts-arm_pair_by
ghosts-arm_pair_by g a = record {
  nodes = a.self.now.nodes;
  actor = a.seat.token.id;
  pending = 1;
  onward = a.onward.now;
  slot = kept_slot a.node;
}
