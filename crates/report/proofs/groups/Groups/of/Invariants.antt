use Rattle.std.proofs.Common.{◌≡◌, ◌++◌, flat_map, take}
use Rattle.report.specs.Groups.{grouped}
use Rattle.report.proofs.groups.Groups.of.Given as goal

-- the numbers of the pieces before this one are in groups
abbrev pub invariant-loop-piece : goal.invariant-loop-piece
invariant-loop-piece l = grouped l.groups ≡ l.rest ++ flat_map (λ piece. piece.items) (take l.piece-index l.pieces)
