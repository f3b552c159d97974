use Rattle.std.proofs.Common.{◌≡◌, ◌+◌, ◌++◌, length, drop, None}
use Rattle.reduce_ops.specs.Operators.{value_of}
use Rattle.prefix_walks.specs.Scans.{all_items, marks_of}
use Rattle.prefix_walks.proofs.scanned.marks.Given as goal

abbrev pub invariant-loop-piece : goal.invariant-loop-piece
invariant-loop-piece l =
    (l.marks.items ++ marks_of (value_of l.prefix.op) l.prefix.range l.before l.start (drop l.piece-index l.pieces)
    ≡ marks_of (value_of l.prefix.op) l.prefix.range 0 None l.pieces)
    × (l.before + length (all_items (drop l.piece-index l.pieces)) ≡ length (all_items l.pieces))
