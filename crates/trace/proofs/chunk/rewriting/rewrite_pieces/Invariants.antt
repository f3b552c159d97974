use Rattle.std.proofs.Common.{◌≡◌, ◌≢◌, [], ◌++◌, All, take, drop}
use Rattle.std.specs.List.{flat_map}
use Rattle.trace.proofs.chunk.rewriting.rewrite_pieces.Given as goal

-- the pieces so far are changed, and the pass goes on with the others; none becomes empty
abbrev pub invariant-loop-piece : goal.invariant-loop-piece
invariant-loop-piece g l =
    (flat_map (λ piece. piece.items) (take l.piece-index l.piece-items)
    ++ g.R.Rewrite.rewritten l.pass (flat_map (λ piece. piece.items) (drop l.piece-index l.piece-items))
    ≡ g.R.Rewrite.rewritten l.fn.pass (flat_map (λ piece. piece.items) l.fn.pieces))
    × (All (λ piece. piece.items ≢ []) l.fn.pieces → All (λ piece. piece.items ≢ []) l.piece-items)
