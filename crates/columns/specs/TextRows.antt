-- Condition: cells and rows of a text that are read where they stand, some of them skipped.
use Rattle.std.specs.Prelude.{◌≡◌, ◌⊎◌, ◌++◌, ◌∷◌, [], ℕ, ℤ, ◌+◌, List, Bool, Option, Some, None, length, map, take}
use Rattle.std.specs.Prelude.{drop, not, true, false, ◌==◌, ◌||◌}
use Rattle.std.specs.Bool.{MatchBool}
use Rattle.std.specs.Char.{is_ascii_digit}
use Rattle.csv.specs.Machine.{Read, next_record}
use Rattle.csv.specs.Reading.{AreRecords}
use Rattle.csv.specs.declared.parser.State.{State}
use Rattle.csv.specs.declared.parser.State.TheVariants as st
use Rattle.columns.specs.Number.{number_of}
use Rattle.tables.specs.Table.{NamedColumn}
use Rattle.columns.specs.TableForms.{config_of, filled, filled_rows, is_good, kept, kept_fault, row_fault_in}
use Rattle.columns.specs.TableForms.{rows_fault_in, seen}
use Rattle.columns.specs.TableOfColumns.{with_row, with_rows}

-- the states at the start of a record
abbrev pub IsBetween : State → Type 0
IsBetween s = (s ≡ st.StartRecord) ⊎ (s ≡ st.AfterCr)

-- a record that ended has these fields, and these bytes come after it
abbrev pub Ends : Option Read → List (List ℕ) → List ℕ → Type 0
Ends read fields ys = (s : State) × IsBetween s × (read ≡ Some (fields, s, ys))

-- a byte that may stand between cells: no quote, no line end, no digit and no minus sign
pub record IsSeparator (s : ℕ) : Type 0 where
  pub no_quote : (s == 34) ≡ false
  pub no_return : (s == 13) ≡ false
  pub no_feed : (s == 10) ≡ false
  pub no_digit : is_ascii_digit s ≡ false
  pub no_minus : (s == 45) ≡ false

-- the bytes that end a bare field
abbrev pub ends_cell : ℕ → ℕ → Bool
ends_cell s c = (c == s) || (c == 13) || (c == 10)

-- the bytes of a number without blanks and a plus sign
abbrev pub is_bare_byte : ℕ → Bool
is_bare_byte b = is_ascii_digit b || (b == 45)

-- these are the records of a text
abbrev pub AreRowsIn : ℕ → List ℕ → List (List (List ℕ)) → Type 0
AreRowsIn s xs rows = AreRecords (config_of s) st.StartRecord xs rows

-- a field starts at xs and has these bytes, whatever comes after; if it is the record's last, the next record starts at
-- ys, and else the next field
abbrev pub IsFieldThere : ℕ → List ℕ → List ℕ → Bool → List ℕ → Type 0
IsFieldThere s xs cell is_last ys = (fields : List (List ℕ)) (rest : List ℕ) → MatchBool is_last
    (Ends (next_record (config_of s) st.StartField fields [] (xs ++ rest)) (fields ++ cell ∷ []) (ys ++ rest))
    (next_record (config_of s) st.StartField fields [] (xs ++ rest)
    ≡ next_record (config_of s) st.StartField (fields ++ cell ∷ []) [] (ys ++ rest))

-- a field starts at xs, whatever it holds
pub record IsTextThere (s : ℕ) (xs : List ℕ) (is_last : Bool) (ys : List ℕ) : Type 0 where
  pub cell : List ℕ
  pub reads : IsFieldThere s xs cell is_last ys

-- a field starts at xs and spells n, if need be with its blanks written out
pub record IsNumberThere (s : ℕ) (b : Option ℤ) (xs : List ℕ) (n : ℤ) (is_last : Bool) (ys : List ℕ) : Type 0 where
  pub cell : List ℕ
  pub number : number_of (filled b cell) ≡ Some n
  pub reads : IsFieldThere s xs cell is_last ys

-- a byte that ends a field, and ys after it
abbrev pub IsMarkThere : ℕ → List ℕ → Bool → List ℕ → Type 0
IsMarkThere s xs is_last ys = (c : ℕ) × (xs ≡ c ∷ ys) × (ends_cell s c ≡ true) × (is_last ≡ not (c == s))

-- a field goes on from xs to ys, where a byte stands that ends it
abbrev pub GoesTo : ℕ → List ℕ → List ℕ → List ℕ → Type 0
GoesTo s xs cell ys = (fields : List (List ℕ)) (rest : List ℕ)
    → next_record (config_of s) st.StartField fields [] (xs ++ rest)
    ≡ next_record (config_of s) st.InField fields cell (ys ++ rest)

-- inside quotes, the bytes from xs to ys are read to others
abbrev pub GoesQuoted : ℕ → State → List ℕ → List ℕ → List ℕ → Type 0
GoesQuoted s t xs inside ys = (fields : List (List ℕ)) (field rest : List ℕ)
    → next_record (config_of s) st.InQuoted fields field (xs ++ rest)
    ≡ next_record (config_of s) t fields (field ++ inside) (ys ++ rest)

-- how many looks there are at the columns of a header
abbrev pub look_count : List (List ℕ) → ℕ
look_count [] = 0
look_count (m ∷ looks) = length m + look_count looks

-- a cell spells a number in each of these looks, and the numbers put the first columns from `before` to `after`
pub record IsCellPut (m : List ℕ) (cell : List ℕ) (before after : List NamedColumn) : Type 0 where
  pub good : is_good m cell ≡ true
  pub put : (more : List (List ℕ)) → take (length m) after ++ with_row (drop (length m) after) more
      ≡ with_row before (seen m cell ++ more)

-- a field starts at xs whose cell, if need be with its blanks written out, is put under the columns
pub record IsCellThere (s : ℕ) (b : Option ℤ) (m : List ℕ) (xs : List ℕ) (is_last : Bool) (ys : List ℕ)
    (before after : List NamedColumn) : Type 0 where
  pub cell : List ℕ
  pub reads : IsFieldThere s xs cell is_last ys
  pub is_put : IsCellPut m (filled b cell) before after

-- a row's first field starts at xs; the row has no fault, the next record starts at ys, and its numbers put the columns
-- from `before` to `after`
pub record IsRowIn (s : ℕ) (b : Option ℤ) (looks : List (List ℕ)) (xs ys : List ℕ)
    (before after : List NamedColumn) : Type 0 where
  pub row : List (List ℕ)
  pub ends : (rest : List ℕ) → Ends (next_record (config_of s) st.StartField [] [] (xs ++ rest)) row (ys ++ rest)
  pub good : (r : ℕ) → row_fault_in looks r (map (filled b) row) ≡ None
  pub put : after ≡ with_row before (kept looks (map (filled b) row))

-- the first fields of a row stand from xs on, before ys; those that are looked at are numbers and are put under the
-- first
-- columns
pub record AreCellsIn (s : ℕ) (b : Option ℤ) (looks : List (List ℕ)) (xs ys : List ℕ) (count : ℕ)
    (before after : List NamedColumn) : Type 0 where
  pub fields : List (List ℕ)
  pub wide : length fields ≡ count
  pub reads : (rest : List ℕ) → next_record (config_of s) st.StartField [] [] (xs ++ rest)
      ≡ next_record (config_of s) st.StartField fields [] (ys ++ rest)
  pub good : (r c : ℕ) → kept_fault (take count looks) r c (map (filled b) fields) ≡ None
  pub put : (more : List (List ℕ))
      → take (look_count (take count looks)) after ++ with_row (drop (look_count (take count looks)) after) more
      ≡ with_row before (kept (take count looks) (map (filled b) fields) ++ more)

-- from a record's start at xs to one at ys there are rows without a fault, whatever comes after, which put the columns
-- from `before` to `after`
pub record AreReadIn (s : ℕ) (b : Option ℤ) (looks : List (List ℕ)) (xs ys : List ℕ)
    (before after : List NamedColumn) : Type 0 where
  pub rows : List (List (List ℕ))
  pub reads : (rest : List ℕ) (more : List (List (List ℕ))) → AreRowsIn s (ys ++ rest) more
      → AreRowsIn s (xs ++ rest) (rows ++ more)
  pub good : (r : ℕ) → rows_fault_in looks r (filled_rows b rows) ≡ None
  pub put : after ≡ with_rows before (map (kept looks) (filled_rows b rows))

-- a column with its first n cells
abbrev pub cut_to : ℕ → NamedColumn → NamedColumn
cut_to n c = record { name = c.name; cells = take n c.cells }

-- cut to n cells each, the columns are others
abbrev pub IsBegun : ℕ → List NamedColumn → List NamedColumn → Type 0
IsBegun n before after = map (cut_to n) after ≡ before

-- each column has n cells
abbrev pub HaveRows : ℕ → List NamedColumn → Type 0
HaveRows n [] = Unit {0}
HaveRows n (c ∷ columns) = (length c.cells ≡ n) × HaveRows n columns

-- all columns have the same number of cells
abbrev pub AreEven : List NamedColumn → Type 0
AreEven columns = (n : ℕ) × HaveRows n columns

-- the first record of a text ends at a place, whatever comes after it
pub record EndsFirst (s : ℕ) (xs : List ℕ) (end : ℕ) : Type 0 where
  pub fields : List (List ℕ)
  pub state : State
  pub between : IsBetween state
  pub reads : (rest : List ℕ) → next_record (config_of s) st.StartRecord [] [] (take end xs ++ rest)
      ≡ Some (fields, state, rest)
