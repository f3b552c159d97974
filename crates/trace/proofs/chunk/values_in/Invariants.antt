use Rattle.std.proofs.Common.{◌≡◌, ◌++◌, take, map}
use Rattle.std.specs.List.{flat_map}
use Rattle.trace.proofs.chunk.values_in.Given as goal

abbrev pub invariant-loop-item : goal.invariant-loop-item
invariant-loop-item l = l.values.items ≡ map (λ x. x.value)
    (flat_map (λ piece. piece.items) (take l.piece-index l.pieces) ++ take l.item-index l.item-items)

abbrev pub invariant-loop-piece : goal.invariant-loop-piece
invariant-loop-piece l = l.values.items ≡ map (λ x. x.value)
    (flat_map (λ piece. piece.items) (take l.piece-index l.pieces))
