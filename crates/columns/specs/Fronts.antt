-- Condition: a text whose first rows stand in the columns already.
use Rattle.std.specs.Prelude.{◌≡◌, ◌≢◌, ◌++◌, ◌+◌, ◌∷◌, [], ⊤, ℕ, Option, List, None, Some, Result, Ok, Err}
use Rattle.std.specs.Prelude.{MatchResult, length, map, drop}
use Rattle.std.specs.Io.KnownBytes.{Consumes, IsAtEnd}
use Rattle.columns.specs.declared.fault.ColumnFault.{ColumnFault}
use Rattle.columns.specs.declared.fault.ColumnFault.TheVariants.{Read, NoMemory}
use Rattle.columns.specs.declared.layout.Layout.{Layout}
use Rattle.columns.specs.declared.rounds.Rounds.{Rounds}
use Rattle.columns.specs.Layouts.{IsLayout, looks_in}
use Rattle.columns.specs.Pieces.{cells_at}
use Rattle.columns.specs.Refusals.{header_fault}
use Rattle.columns.specs.Table.{columns_under}
use Rattle.tables.specs.Table.{NamedColumn}
use Rattle.columns.specs.TableForms.{AbstractForm, filled_rows, kept, kept_names, rows_fault_in, table_by}
use Rattle.columns.specs.TableOfColumns.{with_rows}
use Rattle.columns.specs.TextRows.{AreRowsIn}

-- the numbers of rows as a layout keeps them, written out
abbrev pub kept_rows : Layout → List (List (List ℕ)) → List (List (List ℕ))
kept_rows l rows = map (kept (looks_in l)) (filled_rows l.blank rows)

-- the first fault of rows from row r on
abbrev pub fault_by : Layout → ℕ → List (List (List ℕ)) → Option ColumnFault
fault_by l r rows = rows_fault_in (looks_in l) r (filled_rows l.blank rows)

-- the bytes of a round whose rows aren't put
abbrev pub left_in : Rounds → List ℕ
left_in r = drop r.from r.bytes.items

-- a text has a header and rows without a fault, which stand in the columns; the records after them are read from `left`
-- on, whatever comes after the text
pub record IsFront (form : AbstractForm) (l : Layout) (text left : List ℕ) (columns : List NamedColumn) : Type 0 where
  pub header : List (List ℕ)
  pub rows : List (List (List ℕ))
  pub layout : IsLayout form l header
  pub reads : (rest : List ℕ) (more : List (List (List ℕ))) → AreRowsIn l.separator (left ++ rest) more
      → AreRowsIn l.separator (text ++ rest) (header ∷ (rows ++ more))
  pub fits : header_fault (kept_names (looks_in l) header) ≡ None
  pub good : fault_by l 1 rows ≡ None
  pub put : columns ≡ with_rows (columns_under (kept_names (looks_in l) header) []) (kept_rows l rows)

-- all rows of a text, a mark at its start apart, stand in the columns, or this is their first fault, or a read or
-- memory failed
abbrev pub IsAnswerOf : AbstractForm → List ℕ → Result ⊤ ColumnFault → List NamedColumn → Type 0
IsAnswerOf form text answer columns = (records : List (List (List ℕ))) → AreRowsIn form.separator text records
    → MatchResult answer (λ _. table_by form records ≡ Ok columns)
    (λ fault. fault ≢ Read → fault ≢ NoMemory → table_by form records ≡ Err fault)

-- a reader gave some bytes; if the rows of a text before `bytes` stood in the columns, the rows of the longer text
-- before
-- `left` do
abbrev pub Goes : Layout → Option (List ℕ) → Option (List ℕ) → List ℕ → List ℕ → List NamedColumn → List NamedColumn
    → Type 0
Goes l before after bytes left columns now =
    (gone : List ℕ) × Consumes before after gone
    × ((form : AbstractForm) (text : List ℕ) → IsFront form l text bytes columns
    → IsFront form l (text ++ gone) left now)

-- a reader gave some bytes; if the rows of a text before `bytes` stood in the columns, all rows of the longer text do
abbrev pub IsPutBy : Layout → Option (List ℕ) → Option (List ℕ) → List ℕ → List NamedColumn → Result ⊤ ColumnFault
    → List NamedColumn → Type 0
IsPutBy l before after bytes columns answer now =
    (gone : List ℕ) × Consumes before after gone
    × ((form : AbstractForm) (text : List ℕ) → IsFront form l text bytes columns
    → IsAnswerOf form (text ++ gone) answer now)

-- the rows of a text are put under the columns, or this is the first fault of them, or memory failed
abbrev pub ArePutUnder : Layout → List ℕ → List NamedColumn → Result ⊤ ColumnFault → List NamedColumn → Type 0
ArePutUnder l text columns answer now = (rows : List (List (List ℕ))) → AreRowsIn l.separator text rows
    → MatchResult answer
    (λ _. (fault_by l (length (cells_at columns 0) + 1) rows ≡ None) × (now ≡ with_rows columns (kept_rows l rows)))
    (λ fault. fault ≢ NoMemory → fault_by l (length (cells_at columns 0) + 1) rows ≡ Some fault)

-- a reader is at its end, unless a read or memory failed
abbrev pub IsReadWhole : {X : Type 0} → Option (List ℕ) → Result X ColumnFault → Type 0
IsReadWhole after answer = MatchResult answer (λ _. IsAtEnd after)
    (λ fault. fault ≢ Read → fault ≢ NoMemory → IsAtEnd after)
