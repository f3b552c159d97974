use Rattle.std.proofs.Common.{◌≡◌, ◌++◌, take, flat_map}
use Rattle.report_merge.proofs.joining.values_joined.Given as goal

-- the left values, and then those of the pieces so far
abbrev pub invariant-loop-piece : goal.invariant-loop-piece
invariant-loop-piece l = l.values.items ≡ l.initial.values.items
    ++ flat_map (λ piece. piece.items) (take l.piece-index l.pieces)
