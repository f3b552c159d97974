use Rattle.std.proofs.Common.{◌≤◌, List, All, drop, length, take}
use Rattle.columns.specs.declared.layout.Layout.{Layout}
use Rattle.columns.specs.Layouts.{AreReadBy}
use Rattle.columns.specs.Pieces.{IsPieceThere, append_pieces}
use Rattle.tables.specs.Table.{NamedColumn}
use Rattle.columns.proofs.pieces.pieces_in_line.Given as goal

-- the pieces so far are read, one after the other
abbrev pub invariant-loop-count : goal.invariant-loop-count
invariant-loop-count l =
    (l.at ≤ length l.text)
    × ((layout : Layout) (columns : List NamedColumn) → All (IsPieceThere layout l.text (length columns)) l.pieces
    → AreReadBy layout l.text (drop l.at l.text) columns (append_pieces columns (take l.count l.pieces)))
