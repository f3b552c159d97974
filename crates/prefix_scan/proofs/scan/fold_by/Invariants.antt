use Rattle.std.proofs.Common.{◌≡◌, drop, Some}
use Rattle.reduce_ops.specs.Operators.{value_of}
use Rattle.prefix_scan.specs.Scans.{fold_at}
use Rattle.prefix_scan.proofs.scan.fold_by.Given as goal

abbrev pub invariant-loop-i : goal.invariant-loop-i
invariant-loop-i l = fold_at (value_of l.op) l.fn.range l.i (Some l.folded) (drop l.i l.items)
    ≡ fold_at (value_of l.op) l.fn.range 0 l.fn.start l.items
