-- Meaning: the first reason why a header and the rows under it are no table of numbers.
use Rattle.std.specs.Prelude.{◌+◌, ◌==◌, ◌||◌, [], ◌∷◌, ℕ, Bool, false, List, Option, Some, None, length, nat_lt}
use Rattle.std.specs.Prelude.{is_some, if◌then◌else◌}
use Rattle.std.specs.List.{list_any}
use Rattle.std.specs.Option.{option_or}
use Rattle.std.specs.Str.{bytes_eq}
use Rattle.columns.specs.declared.fault.ColumnFault.{ColumnFault}
use Rattle.columns.specs.declared.fault.ColumnFault.TheVariants.{NoHeader, SameName, BadNumber, RowLength}
use Rattle.columns.specs.declared.fault.ColumnFault.TheVariants.{TooManyColumns, Read, NoMemory}
use Rattle.columns.specs.Number.{number_of}

-- whether two names are equal
abbrev pub has_twice : List (List ℕ) → Bool
has_twice [] = false
has_twice (name ∷ names) = list_any (bytes_eq name) names || has_twice names

-- a header has at most 256 names, and then no name twice
abbrev pub header_fault : List (List ℕ) → Option ColumnFault
header_fault names =
    if nat_lt 256 (length names) then Some TooManyColumns
    else if has_twice names then Some SameName
    else None

-- of the cells of row r, from column c on, the leftmost that spells no number
abbrev pub cell_fault : ℕ → ℕ → List (List ℕ) → Option ColumnFault
cell_fault r c [] = None
cell_fault r c (cell ∷ cells) = if is_some (number_of cell) then cell_fault r (c + 1) cells else Some (BadNumber r c)

-- row r has a cell for each column and no more, and then each cell spells a number
abbrev pub row_fault : ℕ → ℕ → List (List ℕ) → Option ColumnFault
row_fault width r row = if length row == width then cell_fault r 1 row else Some (RowLength r)

-- the fault of the first row from row r on that has one
abbrev pub rows_fault : ℕ → ℕ → List (List (List ℕ)) → Option ColumnFault
rows_fault width r [] = None
rows_fault width r (row ∷ rows) = option_or (row_fault width r row) (rows_fault width (r + 1) rows)

-- the numbers of the faults
abbrev pub number_of_fault : ColumnFault → ℕ
number_of_fault NoHeader = 1
number_of_fault SameName = 2
number_of_fault (BadNumber row column) = 3
number_of_fault (RowLength row) = 4
number_of_fault TooManyColumns = 5
number_of_fault Read = 6
number_of_fault NoMemory = 7
