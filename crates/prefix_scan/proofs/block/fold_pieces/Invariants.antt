use Rattle.std.proofs.Common.{◌≡◌, ◌+◌, drop, flat_map, length, None}
use Rattle.reduce_ops.specs.Operators.{value_of}
use Rattle.prefix_scan.specs.Scans.{fold_at}
use Rattle.prefix_scan.proofs.block.fold_pieces.Given as goal

abbrev pub invariant-loop-piece : goal.invariant-loop-piece
invariant-loop-piece l =
    (fold_at (value_of l.op) l.fn.range l.first l.folded (flat_map (λ piece. piece.items) (drop l.piece-index l.pieces))
    ≡ fold_at (value_of l.op) l.fn.range 0 None (flat_map (λ piece. piece.items) l.pieces))
    × (l.first + length (flat_map (λ piece. piece.items) (drop l.piece-index l.pieces))
    ≡ length (flat_map (λ piece. piece.items) l.pieces))
