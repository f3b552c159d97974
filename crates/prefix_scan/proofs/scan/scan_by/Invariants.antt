use Rattle.std.proofs.Common.{◌≡◌, ◌++◌, take, drop, length, Some}
use Rattle.reduce_ops.specs.Operators.{value_of}
use Rattle.prefix_scan.specs.Scans.{fold_at, scan_at}
use Rattle.prefix_scan.proofs.scan.scan_by.Given as goal

abbrev pub invariant-loop-i : goal.invariant-loop-i
invariant-loop-i l = (length l.items ≡ length l.fn.items)
    × (fold_at (value_of l.op) l.fn.range l.i (Some l.running) (drop l.i l.items)
    ≡ fold_at (value_of l.op) l.fn.range 0 l.fn.start l.fn.items)
    × (take l.i l.items ++ scan_at (value_of l.op) l.fn.range l.i (Some l.running) (drop l.i l.items)
    ≡ scan_at (value_of l.op) l.fn.range 0 l.fn.start l.fn.items)
