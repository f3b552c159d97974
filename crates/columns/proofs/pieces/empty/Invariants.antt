use Rattle.std.proofs.Common.{◌≡◌, map, take}
use Rattle.columns.specs.Pieces.{blanks}
use Rattle.tables.specs.TableOfColumns.{named}
use Rattle.columns.proofs.pieces.empty.Given as goal

-- the columns so far are empty
abbrev pub invariant-loop-column : goal.invariant-loop-column
invariant-loop-column l = map named (take l.column-index l.columns) ≡ blanks l.column-index
