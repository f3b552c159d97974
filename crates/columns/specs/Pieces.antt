-- Condition: rows that were read in pieces of their text.
use Rattle.std.specs.Prelude.{◌≡◌, ◌<◌, ◌≤◌, ◌+◌, ◌++◌, ◌∷◌, [], ℕ, ℤ, zero, suc, true, List, length, map, drop, fold}
use Rattle.std.specs.Prelude.{get_or}
use Rattle.columns.specs.declared.layout.Layout.{Layout}
use Rattle.columns.specs.declared.pieces.TextPiece.{TextPiece}
use Rattle.tables.specs.declared.table.Column.{Column}
use Rattle.columns.specs.Layouts.{AreReadBy}
use Rattle.tables.specs.Table.{NamedColumn}
use Rattle.tables.specs.TableOfColumns.{named}

-- columns without names and cells
abbrev pub blanks : ℕ → List NamedColumn
blanks zero = []
blanks (suc n) = record { name = []; cells = [] } ∷ blanks n

-- columns with the cells of others under theirs
abbrev pub append_columns : List NamedColumn → List NamedColumn → List NamedColumn
append_columns [] piece = []
append_columns (c ∷ columns) [] = c ∷ columns
append_columns (c ∷ columns) (p ∷ piece) =
    record { name = c.name; cells = c.cells ++ p.cells } ∷ append_columns columns piece

-- columns with the cells of pieces under theirs, one piece after the other
abbrev pub append_pieces : List NamedColumn → List TextPiece → List NamedColumn
append_pieces columns pieces = fold (λ k p. append_columns k (map named p.columns.items)) columns pieces

-- the cells of the column in a place
abbrev pub cells_at : List NamedColumn → ℕ → List ℤ
cells_at [] place = []
cells_at (c ∷ columns) zero = c.cells
cells_at (c ∷ columns) (suc place) = cells_at columns place

-- a column with the cells of the pieces' columns in this place under its own
abbrev pub with_pieces : NamedColumn → List TextPiece → ℕ → NamedColumn
with_pieces c pieces place = record {
  name = c.name;
  cells = fold (λ k p. k ++ cells_at (map named p.columns.items) place) c.cells pieces;
}

-- a column that is whole has the cells of all pieces
abbrev pub IsPut : List TextPiece → ℕ → Column → Column → Type 0
IsPut pieces place before after = after.is_whole ≡ true → named after ≡ with_pieces (named before) pieces place

-- each column that is whole has the cells of all pieces; the first of these columns has this place
abbrev pub ArePut : List TextPiece → ℕ → List Column → List Column → Type 0
ArePut pieces first before after =
    (i : ℕ) (c : Column) → i < length before → IsPut pieces (first + i) (get_or before i c) (get_or after i c)

-- the piece holds the rows from a record's start, if one is there, to another one
pub record IsPiece (l : Layout) (text : List ℕ) (width : ℕ) (p : TextPiece) : Type 0 where
  pub ends : p.to ≤ length text
  pub read : AreReadBy l (drop p.from text) (drop p.to text) (blanks width) (map named p.columns.items)

-- the piece holds the rows from a record's start to another one, if it was read
abbrev pub IsPieceThere : Layout → List ℕ → ℕ → TextPiece → Type 0
IsPieceThere l text width p = p.is_read ≡ true → IsPiece l text width p
