use Rattle.std.proofs.Common.{◌≡◌, ◌+◌, flat_map, length, take}
use Rattle.report.proofs.pieces.count.Given as goal

-- the bytes so far are counted
abbrev pub invariant-loop-piece : goal.invariant-loop-piece
invariant-loop-piece l = l.count ≡ length l.last
    + length (flat_map (λ piece. piece.items) (take l.piece-index l.pieces))
