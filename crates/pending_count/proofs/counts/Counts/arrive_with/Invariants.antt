use Rattle.pending_count.specs.Pairs.{side_slot}
use Rattle.pending_count.proofs.counts.Counts.arrive_with.Given as goal

abbrev pub ghosts-hand_in : goal.ghosts-hand_in
ghosts-hand_in g a = record {
  nodes = a.self.now.nodes;
  actor = a.seat.token.id;
  slot = side_slot a.node a.is_left;
  left = a.is_left;
}
