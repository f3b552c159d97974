use Rattle.std.proofs.Common.{◌≡◌, ◌≤◌, length, take}
use Rattle.sort_ops.specs.Runs.{items_of}
use Rattle.prefix_walks.proofs.piece_buffer.PieceBuffer.fill.Given as goal

abbrev pub invariant-loop-position : goal.invariant-loop-position
invariant-loop-position l = length (items_of l.slice) ≤ 1024 → l.self ≡ take l.position (items_of l.slice)
