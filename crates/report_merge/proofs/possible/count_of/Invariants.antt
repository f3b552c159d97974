use Rattle.std.proofs.Common.{◌≡◌, ◌+◌, drop, length, flat_map}
use Rattle.report_merge.proofs.possible.count_of.Given as goal

-- the values of the pieces so far, and those that are left
abbrev pub invariant-loop-piece : goal.invariant-loop-piece
invariant-loop-piece l = l.count + length (flat_map (λ piece. piece.items) (drop l.piece-index l.pieces))
    ≡ length (flat_map (λ piece. piece.items) l.pieces)
