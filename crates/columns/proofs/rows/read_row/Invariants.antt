use Rattle.std.proofs.Common.{map}
use Rattle.csv.specs.Records.{fields_of}
use Rattle.columns.specs.Layouts.{places_in}
use Rattle.columns.specs.TableForms.{filled}
use Rattle.tables.specs.TableOfColumns.{named}
use Rattle.columns.proofs.KeptLemmas.{RowSoFar}
use Rattle.columns.proofs.rows.read_row.Given as goal

-- the cells so far are put
abbrev pub invariant-loop-place : goal.invariant-loop-place
invariant-loop-place l =
    RowSoFar (map places_in l.looks) (map (filled l.layout.blank) (fields_of l.row)) l.number l.place l.column
    (map named l.columns) (map named l.initial.columns)
