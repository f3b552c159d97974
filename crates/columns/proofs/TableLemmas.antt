-- Columns in memory, and the table that they show.
use Rattle.std.proofs.Common.{◌≡◌, ◌∙◌, ◌++◌, ℕ, suc, List, [], ◌∷◌, ap, drop, length, map, refl, sym, append_assoc}
use Rattle.std.proofs.lemmas.List.{append-nil, length-map, map_push}
use Rattle.tables.specs.declared.table.Column.{Column}
use Rattle.columns.specs.Table.{columns_under, first_number}
use Rattle.columns.specs.TableOfColumns.{with_row, with_rows}
use Rattle.tables.specs.TableOfColumns.{named}

pub length-columns_under : (names : List (List ℕ)) (rows : List (List (List ℕ)))
    → length (columns_under names rows) ≡ length names
length-columns_under [] rows = refl
length-columns_under (name ∷ names) rows = ap suc (length-columns_under names (map (drop 1) rows))

-- the number of columns is the number of names
pub length_of_header : (columns : List Column) (names : List (List ℕ)) → map named columns ≡ columns_under names []
    → length columns ≡ length names
length_of_header columns names e = sym (length-map columns named) ∙ ap length e ∙ length-columns_under names []

-- a row more stands under the others
with_row-columns_under : (names : List (List ℕ)) (rows : List (List (List ℕ))) (row : List (List ℕ))
    → with_row (columns_under names rows) row ≡ columns_under names (rows ++ row ∷ [])
with_row-columns_under [] rows row = refl
with_row-columns_under (name ∷ names) rows row =
    rw (map_push first_number rows row, map_push (drop 1) rows row)
    (ap (λ columns. record { name = name; cells = map first_number rows ++ first_number row ∷ [] } ∷ columns)
    (with_row-columns_under names (map (drop 1) rows) (drop 1 row)))

-- and so do all rows
pub with_rows-columns_under : (names : List (List ℕ)) (before rows : List (List (List ℕ)))
    → with_rows (columns_under names before) rows ≡ columns_under names (before ++ rows)
with_rows-columns_under names before [] = ap (columns_under names) (sym (append-nil before))
with_rows-columns_under names before (row ∷ rows) =
    ap (λ c. with_rows c rows) (with_row-columns_under names before row)
    ∙ with_rows-columns_under names (before ++ row ∷ []) rows
    ∙ ap (columns_under names) (append_assoc before (row ∷ []) rows)
