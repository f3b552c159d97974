use Rattle.std.proofs.Common.{◌≡◌, flat_map, length}
use Rattle.report.proofs.numbers.split_first.Given as goal

-- the pieces before have no number
abbrev pub invariant-loop-piece : goal.invariant-loop-piece
invariant-loop-piece l = flat_map (λ piece. piece.items) l.left ≡ flat_map (λ piece. piece.items) l.pieces

abbrev pub decreases-loop-piece : goal.decreases-loop-piece
decreases-loop-piece l = length l.left
