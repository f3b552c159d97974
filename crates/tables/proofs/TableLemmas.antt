-- Columns in memory, and the table that they show.
use Rattle.std.proofs.Common.{◌≡◌, ℕ, List, [], ◌∷◌, map, option_map, refl, inl, inr}
use Rattle.std.proofs.lemmas.Bool.{cases_Bool}
use Rattle.std.specs.List.{find}
use Rattle.std.specs.Str.{bytes_eq}
use Rattle.tables.specs.declared.table.Column.{Column}
use Rattle.tables.specs.Table.{cells_named}
use Rattle.tables.specs.TableOfColumns.{named}

pub cells_named-map : (name : List ℕ) (columns : List Column)
    → cells_named name (map named columns)
    ≡ option_map (λ c. c.cells.items) (find (λ c. bytes_eq c.name.items name) columns)
cells_named-map name [] = refl
cells_named-map name (c ∷ columns) = elim (cases_Bool (bytes_eq c.name.items name)) [
  | inl same ↦ rw same refl
  | inr other ↦ rw other (cells_named-map name columns)
]
