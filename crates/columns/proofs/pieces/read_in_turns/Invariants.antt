use Rattle.std.proofs.Common.{◌≡◌, ◌≤◌, drop, length, map}
use Rattle.columns.specs.Layouts.{AreReadBy}
use Rattle.tables.specs.TableOfColumns.{named}
use Rattle.columns.proofs.pieces.read_in_turns.Given as goal

-- the rows of the pieces so far are put
abbrev pub invariant-loop : goal.invariant-loop
invariant-loop g l =
    (l.at ≤ length l.text) × (length l.columns ≡ length l.initial.columns)
    × AreReadBy l.layout l.text (drop l.at l.text) (map named l.initial.columns) (map named l.columns)
