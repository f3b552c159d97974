-- Meaning: the table that the records of a column file give.
use Rattle.std.specs.Prelude.{[], ◌∷◌, ℕ, ℤ, pos, List, Option, Some, None, Result, Ok, Err, length, map, drop}
use Rattle.std.specs.Prelude.{unwrap_or}
use Rattle.std.specs.Option.{option_or}
use Rattle.columns.specs.declared.fault.ColumnFault.{ColumnFault}
use Rattle.columns.specs.declared.fault.ColumnFault.TheVariants.{NoHeader}
use Rattle.columns.specs.Number.{number_of}
use Rattle.columns.specs.Refusals.{header_fault, rows_fault}
use Rattle.tables.specs.Table.{NamedColumn}

-- helper: the number that the first cell of a row spells; it is asked for only if there is one
abbrev pub first_number : List (List ℕ) → ℤ
first_number [] = pos 0
first_number (cell ∷ cells) = unwrap_or (number_of cell) (pos 0)

-- the columns under these names: the first numbers of the rows, and then those to the right of them
abbrev pub columns_under : List (List ℕ) → List (List (List ℕ)) → List NamedColumn
columns_under [] rows = []
columns_under (name ∷ names) rows =
    record { name = name; cells = map first_number rows } ∷ columns_under names (map (drop 1) rows)

-- helper: these columns, unless there is a fault
abbrev pub unless : Option ColumnFault → List NamedColumn → Result (List NamedColumn) ColumnFault
unless None columns = Ok columns
unless (Some fault) columns = Err fault

-- the table of some records, where the first one is the header: its columns, or the first fault of the header and then
-- of the rows
abbrev pub table_of : List (List (List ℕ)) → Result (List NamedColumn) ColumnFault
table_of [] = Err NoHeader
table_of (header ∷ rows) =
    unless (option_or (header_fault header) (rows_fault (length header) 1 rows)) (columns_under header rows)
