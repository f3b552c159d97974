use Rattle.std.proofs.Common.{◌≡◌, drop, map, take}
use Rattle.tables.specs.TableOfColumns.{named}
use Rattle.columns.specs.TextRows.{cut_to}
use Rattle.columns.proofs.text_rows.take_back.Given as goal

-- the columns so far are cut, and the others are as they were
abbrev pub invariant-loop-column : goal.invariant-loop-column
invariant-loop-column l =
    (map named (take l.column-index l.columns)
    ≡ map (cut_to l.rows) (map named (take l.column-index l.initial.columns)))
    × (drop l.column-index l.columns ≡ drop l.column-index l.initial.columns)
