-- Design: a table that is read in a form, beside the table that a cut to the named columns leaves.
use Rattle.std.specs.Prelude.{◌≡◌, ◌∷◌, ℕ, All, List, Result, Ok, Err, length, map}
use Rattle.columns.specs.declared.fault.ColumnFault.{ColumnFault}
use Rattle.columns.specs.declared.fault.ColumnFault.TheVariants.{NoHeader, SameName, BadNumber, RowLength}
use Rattle.columns.specs.declared.fault.ColumnFault.TheVariants.{TooManyColumns, Read, NoMemory}
use Rattle.columns.specs.Cells.{cells_of}
use Rattle.columns.specs.Table.{table_of}
use Rattle.tables.specs.Table.{NamedColumn}
use Rattle.columns.specs.TableForms.{AbstractForm, cells_by, default_form, filled_rows, kept, kept_names, looks_of}
use Rattle.columns.specs.TableForms.{table_by}

-- a header and rows with the cells of the columns that are looked at alone, under their keys, blank ones written out
-- and
-- decimals read as integers
abbrev pub cut_table : AbstractForm → List (List ℕ) → List (List (List ℕ)) → List (List (List ℕ))
cut_table form header rows =
    kept_names (map (looks_of form) header) header
    ∷ map (kept (map (looks_of form) header)) (filled_rows form.blank rows)

-- a fault without the number of its column
abbrev pub without_column : ColumnFault → ColumnFault
without_column NoHeader = NoHeader
without_column SameName = SameName
without_column (BadNumber row column) = BadNumber row 0
without_column (RowLength row) = RowLength row
without_column TooManyColumns = TooManyColumns
without_column Read = Read
without_column NoMemory = NoMemory

-- an answer without the number of a column
abbrev pub without_place : Result (List NamedColumn) ColumnFault → Result (List NamedColumn) ColumnFault
without_place (Ok columns) = Ok columns
without_place (Err fault) = Err (without_column fault)

-- with a comma, all columns and no number for blanks, bytes give what they give as a table of integers
abbrev pub AreAsBefore : Type 0
AreAsBefore = (bytes : List ℕ) → cells_by default_form bytes ≡ cells_of bytes

-- if each row is as long as the header, the columns or the fault are those of the table that a cut leaves; only a bad
-- number is said to be in its column of the whole table
abbrev pub AreWhatACutLeaves : Type 0
AreWhatACutLeaves = (form : AbstractForm) (header : List (List ℕ)) (rows : List (List (List ℕ)))
    → All (λ row. length row ≡ length header) rows
    → without_place (table_by form (header ∷ rows)) ≡ without_place (table_of (cut_table form header rows))
