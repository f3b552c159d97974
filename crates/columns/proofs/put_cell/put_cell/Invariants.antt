use Rattle.std.proofs.Common.{ℕ, List, map, take}
use Rattle.tables.specs.Table.{NamedColumn}
use Rattle.tables.specs.TableOfColumns.{named}
use Rattle.columns.specs.TableForms.{filled}
use Rattle.columns.specs.TextRows.{HaveRows, IsBegun, IsCellPut}
use Rattle.columns.proofs.put_cell.put_cell.Given as goal

-- the numbers so far are put
abbrev pub invariant-loop-place : goal.invariant-loop-place
invariant-loop-place l = record {
  put : IsCellPut (take l.place l.places) (filled l.blank l.cell) (map named l.initial.columns) (map named l.columns);
  begun : (n : ℕ) (first : List NamedColumn) → HaveRows n first → IsBegun n first (map named l.initial.columns)
      → IsBegun n first (map named l.columns);
}
