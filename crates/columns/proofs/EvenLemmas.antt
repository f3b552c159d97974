-- Columns with the same number of cells.
use Rattle.std.proofs.Common.{◌<◌, ◌+◌, ◌∷◌, [], ℕ, ℤ, List, Option, refl, subst, sym, length, map}
use Rattle.columns.specs.Pieces.{cells_at}
use Rattle.columns.specs.TableForms.{filled_rows, kept}
use Rattle.columns.specs.TableOfColumns.{with_row, with_rows}
use Rattle.columns.specs.TextRows.{AreEven, AreReadIn, HaveRows}
use Rattle.tables.specs.Table.{NamedColumn}
use Rattle.columns.proofs.TextRowLemmas.{HaveRows-row}

pub AreEven-row : (columns : List NamedColumn) (row : List (List ℕ)) → AreEven columns → AreEven (with_row columns row)
AreEven-row columns row (n, h) = (n + 1, HaveRows-row n columns row h)

HaveRows-rows : (n : ℕ) (columns : List NamedColumn) (rows : List (List (List ℕ))) → HaveRows n columns
    → AreEven (with_rows columns rows)
HaveRows-rows n columns [] h = (n, h)
HaveRows-rows n columns (row ∷ rows) h =
    HaveRows-rows (n + 1) (with_row columns row) rows (HaveRows-row n columns row h)

-- rows more leave the columns of one length
pub AreEven-read : (s : ℕ) (b : Option ℤ) (looks : List (List ℕ)) (xs ys : List ℕ) (before after : List NamedColumn)
    → AreReadIn s b looks xs ys before after → AreEven before → AreEven after
AreEven-read s b looks xs ys before after read (n, h) =
    rw read.put (HaveRows-rows n before (map (kept looks) (filled_rows b read.rows)) h)

-- the number of rows is the number of cells of the first column
pub AreEven-first : (columns : List NamedColumn) → 0 < length columns → AreEven columns
    → HaveRows (length (cells_at columns 0)) columns
AreEven-first [] some (n, h) = tt
AreEven-first (c ∷ columns) some (n, (here, more)) = (refl, subst (λ k. HaveRows k columns) (sym here) more)
