use Rattle.std.proofs.Common.{ℕ, List, map}
use Rattle.columns.specs.Records.{IsReading, IsSetUp}
use Rattle.tables.specs.TableOfColumns.{named}
use Rattle.columns.proofs.RowLemmas.{RowsLeft}
use Rattle.columns.proofs.rows.read_rows.Given as goal

-- the rows so far have no fault and stand in the columns
abbrev pub invariant-loop-number : goal.invariant-loop-number
invariant-loop-number l = record {
  set_up : IsSetUp l.reader;
  so_far : (rows : List (List (List ℕ))) → IsReading l.initial.reader rows
      → RowsLeft l.layout l.first l.reader l.number (map named l.columns) (map named l.initial.columns) rows;
}
