-- Meaning: the columns of a table in a form: with this sign between cells, of all columns or the named ones, each of
-- integers or of numbers with decimal places, and with a number for blank cells or none.
use Rattle.std.specs.Prelude.{◌+◌, ◌==◌, ◌++◌, [], ◌∷◌, ℕ, ℤ, Bool, true, false, List, Option, Some, None, Result, Err}
use Rattle.std.specs.Prelude.{length, map, is_some, if◌then◌else◌}
use Rattle.std.specs.Fmt.{signed_decimal}
use Rattle.std.specs.List.{filter, list_all, list_any}
use Rattle.std.specs.Option.{option_or}
use Rattle.std.specs.Str.{bytes_eq}
use Rattle.csv.specs.Reading.{default_config, records, strip_bom}
use Rattle.csv.specs.declared.parser.Config.{Config}
use Rattle.job_names.specs.ColumnKeys.{key_of}
use Rattle.columns.specs.declared.fault.ColumnFault.{ColumnFault}
use Rattle.columns.specs.declared.fault.ColumnFault.TheVariants.{NoHeader, BadNumber, RowLength}
use Rattle.columns.specs.Cell.{is_blank}
use Rattle.columns.specs.Decimals.{scaled}
use Rattle.columns.specs.Number.{number_of}
use Rattle.columns.specs.Refusals.{header_fault}
use Rattle.columns.specs.Table.{columns_under, unless}
use Rattle.tables.specs.Table.{NamedColumn}

-- how a table is read: the byte between cells, whether all columns are looked at, the keys of columns by which jobs
-- name
-- them, and the number of a blank cell, if it isn't refused
pub record AbstractForm : Type 0 where
  pub separator : ℕ
  pub is_all : Bool
  pub names : List (List ℕ)
  pub blank : Option ℤ

-- the form of a table of integers with commas, all of whose columns are looked at
abbrev pub default_form : AbstractForm
default_form = record { separator = 44; is_all = true; names = []; blank = None }

-- helper: how `csv` reads with a separator; with a comma by its defaults
abbrev pub config_of : ℕ → Config
config_of s = record default_config { delimiter = s }

-- helper: how many decimal places a number of a column may have
abbrev pub all_places : List ℕ
all_places = 0 ∷ 1 ∷ 2 ∷ 3 ∷ 4 ∷ 5 ∷ 6 ∷ 7 ∷ 8 ∷ 9 ∷ 10 ∷ 11 ∷ 12 ∷ 13 ∷ 14 ∷ 15 ∷ 16 ∷ 17 ∷ 18 ∷ []

-- helper: the numbers of decimal places with which keys name a column
abbrev pub named_looks : List (List ℕ) → List ℕ → List ℕ
named_looks keys name = filter (λ p. list_any (bytes_eq (key_of name p)) keys) all_places

-- helper: a column that no key names is looked at as one of integers, if all columns are
abbrev pub looks_or : List ℕ → Bool → List ℕ
looks_or [] true = 0 ∷ []
looks_or [] false = []
looks_or (p ∷ looks) is_all = p ∷ looks

-- how the column with a name is looked at: its numbers of decimal places, none if it isn't looked at
abbrev pub looks_of : AbstractForm → List ℕ → List ℕ
looks_of form name = looks_or (named_looks form.names name) form.is_all

-- a cell, with the number of a blank one written out: one without bytes, or of spaces and tabs alone
abbrev pub filled : Option ℤ → List ℕ → List ℕ
filled None cell = cell
filled (Some n) cell = if list_all is_blank cell then signed_decimal n else cell

-- helper: rows with their blank cells written out
abbrev pub filled_rows : Option ℤ → List (List (List ℕ)) → List (List (List ℕ))
filled_rows blank rows = map (map (filled blank)) rows

-- helper: a cell as each look of its column reads it
abbrev pub seen : List ℕ → List ℕ → List (List ℕ)
seen looks cell = map (λ p. scaled p cell) looks

-- the cells of the columns that are looked at, each as its looks read it
abbrev pub kept : List (List ℕ) → List (List ℕ) → List (List ℕ)
kept [] cells = []
kept (m ∷ looks) [] = []
kept (m ∷ looks) (cell ∷ cells) = seen m cell ++ kept looks cells

-- the keys of the columns that are looked at
abbrev pub kept_names : List (List ℕ) → List (List ℕ) → List (List ℕ)
kept_names [] names = []
kept_names (m ∷ looks) [] = []
kept_names (m ∷ looks) (name ∷ names) = map (key_of name) m ++ kept_names looks names

-- whether a cell spells a number in each of its looks
abbrev pub is_good : List ℕ → List ℕ → Bool
is_good looks cell = list_all (λ p. is_some (number_of (scaled p cell))) looks

-- of the cells of row r, from column c on, the leftmost that spells no number in one of its looks
abbrev pub kept_fault : List (List ℕ) → ℕ → ℕ → List (List ℕ) → Option ColumnFault
kept_fault [] r c cells = None
kept_fault (m ∷ looks) r c [] = None
kept_fault (m ∷ looks) r c (cell ∷ cells) =
    if is_good m cell then kept_fault looks r (c + 1) cells else Some (BadNumber r c)

-- row r has a cell for each column of the header and no more, and then each cell spells a number in each of its looks
abbrev pub row_fault_in : List (List ℕ) → ℕ → List (List ℕ) → Option ColumnFault
row_fault_in looks r row = if length row == length looks then kept_fault looks r 1 row else Some (RowLength r)

-- the fault of the first row from row r on that has one
abbrev pub rows_fault_in : List (List ℕ) → ℕ → List (List (List ℕ)) → Option ColumnFault
rows_fault_in looks r [] = None
rows_fault_in looks r (row ∷ rows) = option_or (row_fault_in looks r row) (rows_fault_in looks (r + 1) rows)

-- helper: the table of a header and rows, of the columns that are looked at
abbrev pub table_under : List (List ℕ) → List (List ℕ) → List (List (List ℕ)) → Result (List NamedColumn) ColumnFault
table_under looks header rows =
    unless (option_or (header_fault (kept_names looks header)) (rows_fault_in looks 1 rows))
    (columns_under (kept_names looks header) (map (kept looks) rows))

-- the table of some records in a form, where the first record is the header
abbrev pub table_by : AbstractForm → List (List (List ℕ)) → Result (List NamedColumn) ColumnFault
table_by form [] = Err NoHeader
table_by form (header ∷ rows) = table_under (map (looks_of form) header) header (filled_rows form.blank rows)

-- the columns that the bytes of a file give in a form, or the first reason why they give none
abbrev pub cells_by : AbstractForm → List ℕ → Result (List NamedColumn) ColumnFault
cells_by form bytes = table_by form (records (config_of form.separator) (strip_bom bytes))
