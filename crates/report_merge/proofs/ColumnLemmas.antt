-- The cells of a column over some rows, and over those and others.
use Rattle.std.proofs.Common.{◌≡◌, ℕ, suc, ℤ, pos, Bool, true, false, List, [], ◌∷◌, ◌++◌, length, Option, Some, None}
use Rattle.std.proofs.Common.{Ok, refl, sym, ap, ◌∙◌}
use Rattle.std.specs.Prelude.{map, drop, option_map, if◌then◌else◌}
use Rattle.std.specs.List.{find}
use Rattle.std.specs.Str.{bytes_eq}
use Rattle.std.proofs.lemmas.List.{map-append}
use Rattle.columns.specs.declared.fault.ColumnFault.{ColumnFault}
use Rattle.columns.specs.Refusals.{header_fault}
use Rattle.columns.specs.Table.{columns_under, first_number, unless}
use Rattle.columns.specs.TableForms.{AbstractForm, filled, filled_rows, kept, kept_names, looks_of, rows_fault_in}
use Rattle.columns.specs.TableForms.{table_by}
use Rattle.tables.specs.Table.{NamedColumn, cells_named}
use Rattle.std.specs.Option.{option_or}
use Rattle.report_merge.specs.Cuts.{AreBare, Row}

-- the cells under a name; zeros if the header doesn't have it
abbrev pub cells_at : Row → List Row → List ℕ → List ℤ
cells_at [] rows w = map (λ (row : Row). pos 0) rows
cells_at (name ∷ names) rows w = if bytes_eq name w then map first_number rows else cells_at names (map (drop 1) rows) w

length-map : {A B : Type 0} (f : A → B) (xs : List A) → length (map f xs) ≡ length xs
length-map f [] = refl
length-map f (x ∷ xs) = ap suc (length-map f xs)

count_at : (header : Row) (rows : List Row) (w : List ℕ) → length (cells_at header rows w) ≡ length rows
count_at [] rows w = length-map (λ (row : Row). pos 0) rows
count_at (name ∷ names) rows w = by_name (bytes_eq name w)
    (count_at names (map (drop 1) rows) w ∙ length-map (drop 1) rows)
  where
    by_name : (t : Bool) → length (cells_at names (map (drop 1) rows) w) ≡ length rows
        → length (if t then map first_number rows else cells_at names (map (drop 1) rows) w) ≡ length rows
    by_name true others = length-map first_number rows
    by_name false others = others

joined_at : (header : Row) (xs ys : List Row) (w : List ℕ)
    → cells_at header (xs ++ ys) w ≡ cells_at header xs w ++ cells_at header ys w
joined_at [] xs ys w = map-append (λ (row : Row). pos 0) xs ys
joined_at (name ∷ names) xs ys w =
    by_name (bytes_eq name w) (ap (λ (rows : List Row). cells_at names rows w) (map-append (drop 1) xs ys)
    ∙ joined_at names (map (drop 1) xs) (map (drop 1) ys) w)
  where
    by_name : (t : Bool) → cells_at names (map (drop 1) (xs ++ ys)) w
        ≡ cells_at names (map (drop 1) xs) w ++ cells_at names (map (drop 1) ys) w
        → (if t then map first_number (xs ++ ys) else cells_at names (map (drop 1) (xs ++ ys)) w)
        ≡ (if t then map first_number xs else cells_at names (map (drop 1) xs) w)
        ++ (if t then map first_number ys else cells_at names (map (drop 1) ys) w)
    by_name true others = map-append first_number xs ys
    by_name false others = others

-- the cells under a name, if the header has it
found_cells : (name : List ℕ) (names : Row) (rows : List Row) (w : List ℕ)
    → cells_named w (columns_under (name ∷ names) rows)
    ≡ (if bytes_eq name w then Some (map first_number rows)
    else cells_named w (columns_under names (map (drop 1) rows)))
found_cells name names rows w = by_name (bytes_eq name w)
  where
    first : NamedColumn
    first = record { name = name; cells = map first_number rows }

    by_name : (t : Bool) → option_map (λ (c : NamedColumn). c.cells)
        (if t then Some (record { name = name; cells = map first_number rows })
        else find (λ (c : NamedColumn). bytes_eq c.name w) (columns_under names (map (drop 1) rows)))
        ≡ (if t then Some (map first_number rows) else cells_named w (columns_under names (map (drop 1) rows)))
    by_name true = refl
    by_name false = refl

pub cells_under : (header : Row) (rows : List Row) (w : List ℕ) (vs : List ℤ)
    → cells_named w (columns_under header rows) ≡ Some vs → vs ≡ cells_at header rows w
cells_under [] rows w vs h = absurd cc
cells_under (name ∷ names) rows w vs h =
    by_name (bytes_eq name w) (cells_under names (map (drop 1) rows) w vs) (sym (found_cells name names rows w) ∙ h)
  where
    by_name : (t : Bool) → (cells_named w (columns_under names (map (drop 1) rows)) ≡ Some vs
        → vs ≡ cells_at names (map (drop 1) rows) w)
        → (if t then Some (map first_number rows) else cells_named w (columns_under names (map (drop 1) rows)))
        ≡ Some vs
        → vs ≡ (if t then map first_number rows else cells_at names (map (drop 1) rows) w)
    by_name true others e = let same : map first_number rows ≡ vs = cc in sym same
    by_name false others e = others e

-- columns without cells have none under any name
pub bare_cells : (columns : List NamedColumn) → AreBare columns → (w : List ℕ) (vs : List ℤ)
    → cells_named w columns ≡ Some vs → vs ≡ []
bare_cells [] bare w vs h = absurd cc
bare_cells (c ∷ columns) bare w vs h = by_name (bytes_eq c.name w) (bare_cells columns bare.1 w vs) h
  where
    by_name : (t : Bool) → (cells_named w columns ≡ Some vs → vs ≡ [])
        → option_map (λ (d : NamedColumn). d.cells)
        (if t then Some c else find (λ (d : NamedColumn). bytes_eq d.name w) columns) ≡ Some vs → vs ≡ []
    by_name true others e = let same : c.cells ≡ vs = cc in sym same ∙ bare.0
    by_name false others e = others e

-- ---- a table that is read in a form

module _ (form : AbstractForm) (header : Row) where
  -- the names of the columns that are looked at
  abbrev pub column_names : Row
  column_names = kept_names (map (looks_of form) header) header

  -- the cells of a row in these columns
  abbrev pub kept_cells : Row → Row
  kept_cells cells = kept (map (looks_of form) header) cells

  -- those of each row, blank ones written out
  abbrev pub kept_rows : List Row → List Row
  kept_rows rows = map kept_cells (filled_rows form.blank rows)

  pub cells_count : (rows : List Row) (w : List ℕ) → length (cells_at column_names (kept_rows rows) w) ≡ length rows
  cells_count rows w =
      count_at column_names (kept_rows rows) w ∙ length-map kept_cells (filled_rows form.blank rows)
      ∙ length-map (map (filled form.blank)) rows

  pub cells_joined : (xs ys : List Row) (w : List ℕ)
      → cells_at column_names (kept_rows (xs ++ ys)) w
      ≡ cells_at column_names (kept_rows xs) w ++ cells_at column_names (kept_rows ys) w
  cells_joined xs ys w =
      ap (λ (rows : List Row). cells_at column_names rows w)
      (ap (map kept_cells) (map-append (map (filled form.blank)) xs ys)
      ∙ map-append kept_cells (filled_rows form.blank xs) (filled_rows form.blank ys))
      ∙ joined_at column_names (kept_rows xs) (kept_rows ys) w

  -- a table has the columns under its header
  pub table_columns : (rows : List Row) (columns : List NamedColumn) → table_by form (header ∷ rows) ≡ Ok columns
      → columns ≡ columns_under column_names (kept_rows rows)
  table_columns rows columns h = good (option_or (header_fault column_names)
      (rows_fault_in (map (looks_of form) header) 1 (filled_rows form.blank rows))) h
    where
      good : (o : Option ColumnFault) → unless o (columns_under column_names (kept_rows rows)) ≡ Ok columns
          → columns ≡ columns_under column_names (kept_rows rows)
      good None e = let same : columns_under column_names (kept_rows rows) ≡ columns = cc in sym same
      good (Some f) e = absurd cc
