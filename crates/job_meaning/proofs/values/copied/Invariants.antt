use Rattle.std.proofs.Common.{◌≡◌, take, flat_map}
use Rattle.job_meaning.proofs.values.copied.Given as goal

abbrev pub invariant-loop-piece : goal.invariant-loop-piece
invariant-loop-piece l = l.values.items ≡ flat_map (λ piece. piece.items) (take l.piece-index l.pieces)
