use Rattle.std.proofs.Common.{◌≡◌, ◌++◌, take, drop, length, Some}
use Rattle.reduce_ops.specs.Operators.{value_of}
use Rattle.prefix_scan.specs.Scans.{fold_values_at, scan_values_at}
use Rattle.prefix_scan.proofs.scan.scan_values_by.Given as goal

abbrev pub invariant-loop-i : goal.invariant-loop-i
invariant-loop-i l = (length l.values ≡ length l.fn.values)
    × (fold_values_at (value_of l.op) l.fn.range l.i (Some l.running) (drop l.i l.values)
    ≡ fold_values_at (value_of l.op) l.fn.range 0 l.fn.start l.fn.values)
    × (take l.i l.values ++ scan_values_at (value_of l.op) l.fn.range l.i (Some l.running) (drop l.i l.values)
    ≡ scan_values_at (value_of l.op) l.fn.range 0 l.fn.start l.fn.values)
