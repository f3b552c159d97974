-- Condition: columns with rows added at their ends.
use Rattle.std.specs.Prelude.{◌∷◌, ◌++◌, [], ℕ, List, drop}
use Rattle.columns.specs.Table.{first_number}
use Rattle.tables.specs.Table.{NamedColumn}

-- each column with the number that stands in its place in a row
abbrev pub with_row : List NamedColumn → List (List ℕ) → List NamedColumn
with_row [] row = []
with_row (c ∷ columns) row = record c { cells = c.cells ++ first_number row ∷ [] } ∷ with_row columns (drop 1 row)

-- each column with the numbers in its place, row by row from the top
abbrev pub with_rows : List NamedColumn → List (List (List ℕ)) → List NamedColumn
with_rows columns [] = columns
with_rows columns (row ∷ rows) = with_rows (with_row columns row) rows
