-- Design: why a table is refused that is cut into parts, each with the header, where all are read in one form.
use Rattle.std.specs.Prelude.{ℕ, ◌+◌, List, [], ◌∷◌, length, Option, Some, None, Result, Ok, Err}
use Rattle.std.specs.Option.{option_or}
use Rattle.columns.specs.declared.fault.ColumnFault.{ColumnFault}
use Rattle.columns.specs.declared.fault.ColumnFault.TheVariants.{NoHeader, SameName, BadNumber, RowLength}
use Rattle.columns.specs.declared.fault.ColumnFault.TheVariants.{TooManyColumns, Read, NoMemory}
use Rattle.columns.specs.TableForms.{AbstractForm, table_by}
use Rattle.tables.specs.Table.{NamedColumn}
use Rattle.report_merge.specs.Cuts.{Row}

-- the fault of a part that these rows come before
abbrev pub moved_row : ℕ → ColumnFault → ColumnFault
moved_row before NoHeader = NoHeader
moved_row before SameName = SameName
moved_row before (BadNumber row place) = BadNumber (before + row) place
moved_row before (RowLength row) = RowLength (before + row)
moved_row before TooManyColumns = TooManyColumns
moved_row before Read = Read
moved_row before NoMemory = NoMemory

abbrev pub moved_refusal : ℕ → Option ColumnFault → Option ColumnFault
moved_refusal before None = None
moved_refusal before (Some fault) = Some (moved_row before fault)

-- why these records are no table, if they are none
abbrev pub refusal_in : Result (List NamedColumn) ColumnFault → Option ColumnFault
refusal_in (Ok columns) = None
refusal_in (Err fault) = Some fault

abbrev pub refusal_of : AbstractForm → List Row → Option ColumnFault
refusal_of form records = refusal_in (table_by form records)

-- the refusal of the first part that is refused, its row counted over the whole; these rows come before the parts,
-- and each part has the header
abbrev pub first_refusal : AbstractForm → ℕ → Row → List (List Row) → Option ColumnFault
first_refusal form before header [] = None
first_refusal form before header (rows ∷ tables) =
    option_or (moved_refusal before (refusal_of form (header ∷ rows)))
    (first_refusal form (before + length rows) header tables)
