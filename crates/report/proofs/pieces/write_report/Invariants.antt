use Rattle.std.proofs.Common.{◌≡◌, ◌≤◌, flat_map, length, take}
use Rattle.std.specs.Io.KnownBytes.{Appends}
use Rattle.report.proofs.pieces.write_report.Given as goal

-- the pieces so far went out, and nothing else
abbrev pub invariant-loop-piece : goal.invariant-loop-piece
invariant-loop-piece g l =
    (l.written ≡ length (flat_map (λ piece. piece.items) (take l.piece-index l.piece-items)))
    × Appends (g.W.CountedWrite.contents l.initial.writer) (g.W.CountedWrite.contents l.writer)
    (flat_map (λ piece. piece.items) (take l.piece-index l.piece-items))
    × (g.W.CountedWrite.failures l.initial.writer ≤ g.W.CountedWrite.failures l.writer)
