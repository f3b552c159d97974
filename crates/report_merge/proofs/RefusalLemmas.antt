-- The first part that is refused gives the refusal of the table.
use Rattle.std.proofs.Common.{◌≡◌, ℕ, suc, ◌+◌, Bool, true, false, List, [], ◌∷◌, ◌++◌, length, append-nil, Option}
use Rattle.std.proofs.Common.{Some, None, refl, sym, ap, ◌∙◌, arith}
use Rattle.std.specs.Prelude.{ℤ, ◌==◌, map, if◌then◌else◌}
use Rattle.std.specs.Option.{option_or}
use Rattle.columns.specs.declared.fault.ColumnFault.{ColumnFault}
use Rattle.columns.specs.declared.fault.ColumnFault.TheVariants.{SameName, BadNumber, RowLength, TooManyColumns}
use Rattle.columns.specs.Refusals.{header_fault}
use Rattle.columns.specs.Table.{columns_under, unless}
use Rattle.columns.specs.TableForms.{AbstractForm, filled, filled_rows, is_good, kept, kept_fault, kept_names, looks_of}
use Rattle.columns.specs.TableForms.{row_fault_in, rows_fault_in}
use Rattle.tables.specs.Table.{NamedColumn}
use Rattle.report_merge.specs.Cuts.{Row, all_rows}
use Rattle.report_merge.specs.Refusals.{first_refusal, moved_refusal, refusal_in, refusal_of}

or_grouped : (a b c : Option ColumnFault) → option_or (option_or a b) c ≡ option_or a (option_or b c)
or_grouped (Some a) b c = refl
or_grouped None b c = refl

or_none : (a : Option ColumnFault) → option_or a None ≡ a
or_none (Some a) = refl
or_none None = refl

in_table : (o : Option ColumnFault) (columns : List NamedColumn) → refusal_in (unless o columns) ≡ o
in_table None columns = refl
in_table (Some fault) columns = refl

-- ---- rows that come later

cells_later : (k r c : ℕ) (looks : List (List ℕ)) (cells : List (List ℕ))
    → kept_fault looks (k + r) c cells ≡ moved_refusal k (kept_fault looks r c cells)
cells_later k r c [] cells = refl
cells_later k r c (look ∷ looks) [] = refl
cells_later k r c (look ∷ looks) (cell ∷ cells) = by_number (is_good look cell) (cells_later k r (c + 1) looks cells)
  where
    by_number : (t : Bool) → kept_fault looks (k + r) (c + 1) cells ≡ moved_refusal k (kept_fault looks r (c + 1) cells)
        → (if t then kept_fault looks (k + r) (c + 1) cells else Some (BadNumber (k + r) c))
        ≡ moved_refusal k (if t then kept_fault looks r (c + 1) cells else Some (BadNumber r c))
    by_number true others = others
    by_number false others = refl

row_later : (k r : ℕ) (looks : List (List ℕ)) (row : Row)
    → row_fault_in looks (k + r) row ≡ moved_refusal k (row_fault_in looks r row)
row_later k r looks row = by_length (length row == length looks)
  where
    by_length : (t : Bool) → (if t then kept_fault looks (k + r) 1 row else Some (RowLength (k + r)))
        ≡ moved_refusal k (if t then kept_fault looks r 1 row else Some (RowLength r))
    by_length true = cells_later k r 1 looks row
    by_length false = refl

moved_or : (k : ℕ) (a b : Option ColumnFault)
    → option_or (moved_refusal k a) (moved_refusal k b) ≡ moved_refusal k (option_or a b)
moved_or k None b = refl
moved_or k (Some f) b = refl

-- the fault of some rows of a table that is read in a form, from row r on
abbrev fault_from : List (List ℕ) → Option ℤ → ℕ → List Row → Option ColumnFault
fault_from looks blank r rows = rows_fault_in looks r (filled_rows blank rows)

rows_later : (k r : ℕ) (looks : List (List ℕ)) (blank : Option ℤ) (rows : List Row)
    → fault_from looks blank (k + r) rows ≡ moved_refusal k (fault_from looks blank r rows)
rows_later k r looks blank [] = refl
rows_later k r looks blank (row ∷ rows) =
    let e : k + r + 1 ≡ k + (r + 1) = omega arith in
    let cells = map (filled blank) row in
    (λ i. option_or (row_later k r looks cells i) (fault_from looks blank (e i) rows))
    ∙ ap (option_or (moved_refusal k (row_fault_in looks r cells))) (rows_later k (r + 1) looks blank rows)
    ∙ moved_or k (row_fault_in looks r cells) (fault_from looks blank (r + 1) rows)

rows_joined : (r : ℕ) (looks : List (List ℕ)) (blank : Option ℤ) (xs ys : List Row)
    → fault_from looks blank r (xs ++ ys)
    ≡ option_or (fault_from looks blank r xs) (fault_from looks blank (r + length xs) ys)
rows_joined r looks blank [] ys = let e : r ≡ r + 0 = omega arith in ap (λ (n : ℕ). fault_from looks blank n ys) e
rows_joined r looks blank (x ∷ xs) ys =
    let e : r + 1 + length xs ≡ r + suc (length xs) = omega arith in
    let cells = map (filled blank) x in
    ap (option_or (row_fault_in looks r cells))
    (rows_joined (r + 1) looks blank xs ys
    ∙ ap (λ (n : ℕ). option_or (fault_from looks blank (r + 1) xs) (fault_from looks blank n ys)) e)
    ∙ sym (or_grouped (row_fault_in looks r cells) (fault_from looks blank (r + 1) xs)
    (fault_from looks blank (r + length (x ∷ xs)) ys))

-- ---- parts

-- a fault of a header has no row
header_stays : (k : ℕ) (header : Row) (t u : Bool)
    → moved_refusal k (if t then Some TooManyColumns else if u then Some SameName else None)
    ≡ (if t then Some TooManyColumns else if u then Some SameName else None)
header_stays k header true u = refl
header_stays k header false true = refl
header_stays k header false false = refl

header_same : (k : ℕ) (header : Row) → moved_refusal k (header_fault header) ≡ header_fault header
header_same k header = header_stays k header _ _

or_twice : (h a b : Option ColumnFault) → option_or (option_or h a) (option_or h b) ≡ option_or h (option_or a b)
or_twice None a b = refl
or_twice (Some f) a b = refl

module _ (form : AbstractForm) (header : Row) where
  abbrev looks : List (List ℕ)
  looks = map (looks_of form) header

  abbrev names : Row
  names = kept_names looks header

  -- the fault of the header, or else of some rows from row r on
  abbrev fault_over : ℕ → List Row → Option ColumnFault
  fault_over r rows = option_or (header_fault names) (fault_from looks form.blank r rows)

  -- a table is refused for its header, or else for its rows
  refused_by : (rows : List Row) → refusal_of form (header ∷ rows) ≡ fault_over 1 rows
  refused_by rows = in_table (fault_over 1 rows) (columns_under names (map (kept looks) (filled_rows form.blank rows)))

  part_refused : (before : ℕ) (rows : List Row)
      → fault_over (before + 1) rows ≡ moved_refusal before (refusal_of form (header ∷ rows))
  part_refused before rows =
      (λ i. option_or (sym (header_same before names) i) (rows_later before 1 looks form.blank rows i))
      ∙ moved_or before (header_fault names) (fault_from looks form.blank 1 rows)
      ∙ ap (moved_refusal before) (sym (refused_by rows))

  -- `before` rows come before these parts
  parts_refused : (before : ℕ) (rows : List Row) (tables : List (List Row))
      → fault_over (before + 1) (all_rows (rows ∷ tables)) ≡ first_refusal form before header (rows ∷ tables)
  parts_refused before rows [] =
      ap (fault_over (before + 1)) (append-nil rows)
      ∙ part_refused before rows
      ∙ sym (or_none (moved_refusal before (refusal_of form (header ∷ rows))))
  parts_refused before rows (next ∷ tables) =
      let more = all_rows (next ∷ tables) in
      let e : before + 1 + length rows ≡ before + length rows + 1 = omega arith in
      ap (option_or (header_fault names)) (rows_joined (before + 1) looks form.blank rows more)
      ∙ sym (or_twice (header_fault names) (fault_from looks form.blank (before + 1) rows)
      (fault_from looks form.blank (before + 1 + length rows) more))
      ∙ (λ i. option_or (part_refused before rows i) (fault_over (e i) more))
      ∙ ap (option_or (moved_refusal before (refusal_of form (header ∷ rows))))
      (parts_refused (before + length rows) next tables)

  pub refused_parts : (rows : List Row) (tables : List (List Row))
      → refusal_of form (header ∷ all_rows (rows ∷ tables)) ≡ first_refusal form 0 header (rows ∷ tables)
  refused_parts rows tables = refused_by (all_rows (rows ∷ tables)) ∙ parts_refused 0 rows tables
