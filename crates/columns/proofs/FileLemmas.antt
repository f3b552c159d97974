-- What a file says, from its first record and the rows under it.
use Rattle.std.proofs.Common.{◌≡◌, ◌∷◌, ◌∙◌, ℕ, List, [], Bool, true, false, Some, None, Ok, Err, ap, refl, sym}
use Rattle.std.specs.Borrow.{Bor}
use Rattle.csv.specs.declared.reader.Reader.{Reader}
use Rattle.columns.specs.declared.fault.ColumnFault.{ColumnFault}
use Rattle.columns.specs.declared.fault.ColumnFault.TheVariants.{NoHeader}
use Rattle.columns.specs.declared.layout.Layout.{Layout}
use Rattle.columns.specs.Fronts.{fault_by, kept_rows}
use Rattle.columns.specs.Layouts.{IsLayout, looks_in, records_in}
use Rattle.columns.specs.Records.{GaveNext, IsReading}
use Rattle.columns.specs.Refusals.{header_fault}
use Rattle.columns.specs.Table.{columns_under}
use Rattle.tables.specs.Table.{NamedColumn}
use Rattle.columns.specs.TableForms.{AbstractForm, cells_by, filled_rows, kept_names, table_by, table_under}
use Rattle.columns.specs.TableOfColumns.{with_rows}
use Rattle.columns.proofs.TableLemmas.{with_rows-columns_under}

pub no_record : (form : AbstractForm) (bytes : List ℕ) (found : Bool) (fields : List (List ℕ))
    (b : Reader (Bor (List ℕ)))
    → GaveNext (records_in form.separator bytes) found fields b → found ≡ false → cells_by form bytes ≡ Err NoHeader
no_record form bytes found fields b gave none = ap (table_by form) (rw none at gave)

-- the header and the rows under it
pub first_record : (s : ℕ) (bytes : List ℕ) (found : Bool) (fields : List (List ℕ)) (b : Reader (Bor (List ℕ)))
    → GaveNext (records_in s bytes) found fields b → found ≡ true
    → (rows : List (List (List ℕ))) × (records_in s bytes ≡ fields ∷ rows) × IsReading b rows
first_record s bytes found fields b gave some = rw some at gave

-- the table that a layout of the header gives
by_layout : (form : AbstractForm) (l : Layout) (header : List (List ℕ)) (rows : List (List (List ℕ)))
    → IsLayout form l header
    → table_by form (header ∷ rows) ≡ table_under (looks_in l) header (filled_rows l.blank rows)
by_layout form l header rows is = rw (is.looks, is.blank) refl

pub table_refused : (form : AbstractForm) (l : Layout) (header : List (List ℕ)) (rows : List (List (List ℕ)))
    (fault : ColumnFault) → IsLayout form l header
    → header_fault (kept_names (looks_in l) header) ≡ Some fault → table_by form (header ∷ rows) ≡ Err fault
table_refused form l header rows fault is bad = by_layout form l header rows is ∙ rw bad refl

pub table_bad : (form : AbstractForm) (l : Layout) (header : List (List ℕ)) (rows : List (List (List ℕ)))
    (fault : ColumnFault) → IsLayout form l header
    → header_fault (kept_names (looks_in l) header) ≡ None → fault_by l 1 rows ≡ Some fault
    → table_by form (header ∷ rows) ≡ Err fault
table_bad form l header rows fault is fits bad = by_layout form l header rows is ∙ rw (fits, bad) refl

pub table_good : (form : AbstractForm) (l : Layout) (header : List (List ℕ)) (rows : List (List (List ℕ)))
    (columns : List NamedColumn) → IsLayout form l header
    → header_fault (kept_names (looks_in l) header) ≡ None → fault_by l 1 rows ≡ None
    → columns ≡ with_rows (columns_under (kept_names (looks_in l) header) []) (kept_rows l rows)
    → table_by form (header ∷ rows) ≡ Ok columns
table_good form l header rows columns is fits good put =
    by_layout form l header rows is ∙ rw (fits, good)
    (ap Ok (sym (put ∙ with_rows-columns_under (kept_names (looks_in l) header) [] (kept_rows l rows))))
