use Rattle.std.proofs.Common.{◌≡◌, ◌≤◌, ◌-◌, drop, length, map}
use Rattle.tables.specs.TableOfColumns.{named}
use Rattle.columns.specs.Layouts.{AreReadBy}
use Rattle.columns.specs.TextRows.{AreEven}
use Rattle.columns.proofs.text_rows.read_text_rows.Given as goal

-- the rows so far are read
abbrev pub invariant-loop-at : goal.invariant-loop-at
invariant-loop-at l =
    (l.at ≤ length l.text) × (l.from ≤ l.at) × (length l.columns ≡ length l.initial.columns)
    × AreEven (map named l.columns)
    × AreReadBy l.layout (drop l.from l.text) (drop l.at l.text) (map named l.initial.columns) (map named l.columns)

abbrev pub decreases-loop-at : goal.decreases-loop-at
decreases-loop-at l = l.to - l.at
