-- Tables in a form: by default all of a table, and else what a cut leaves.
use Rattle.std.proofs.Common.{◌≡◌, ◌+◌, ◌++◌, ◌∷◌, ◌∙◌, ◌==◌, [], ℕ, ℤ, zero, suc, All, List, true, false, Option, Some}
use Rattle.std.proofs.Common.{None, IfSome, Result, Ok, Err, refl, sym, ap, subst, inl, inr, arith, length, map}
use Rattle.std.proofs.lemmas.List.{length-map}
use Rattle.std.proofs.lemmas.Bool.{cases_Bool}
use Rattle.std.proofs.lemmas.Bool.Decides.{nat_tests}
use Rattle.std.specs.Prelude.{is_some, option_map}
use Rattle.std.specs.Option.{option_or}
use Rattle.columns.specs.declared.fault.ColumnFault.{ColumnFault}
use Rattle.columns.specs.declared.fault.ColumnFault.TheVariants.{BadNumber}
use Rattle.columns.specs.Cells.{IsAnswerTo, records_of}
use Rattle.columns.specs.Layouts.{IsAnswerBy}
use Rattle.columns.specs.Decimals.{scaled}
use Rattle.columns.specs.Number.{number_of}
use Rattle.columns.specs.Refusals.{cell_fault, header_fault, row_fault, rows_fault}
use Rattle.columns.specs.Table.{columns_under, table_of, unless}
use Rattle.tables.specs.Table.{NamedColumn}
use Rattle.columns.specs.TableCuts.{AreAsBefore, AreWhatACutLeaves, without_column, without_place}
use Rattle.columns.specs.TableForms.{AbstractForm, default_form, filled, filled_rows, is_good, kept, kept_fault}
use Rattle.columns.specs.TableForms.{kept_names, looks_of, row_fault_in, rows_fault_in, seen, table_by}
use Rattle.columns.proofs.KeptLemmas.{length-kept, length-kept_names, same_length}

-- ---- all of a table

kept_all : (header cells : List (List ℕ)) → length cells ≡ length header
    → kept (map (looks_of default_form) header) cells ≡ cells
kept_all [] [] h = refl
kept_all [] (cell ∷ cells) h = cc h
kept_all (name ∷ header) [] h = refl
kept_all (name ∷ header) (cell ∷ cells) h = ap (λ l. cell ∷ l) (kept_all header cells (omega (arith, h)))

fault_all : (header : List (List ℕ)) (r c : ℕ) (cells : List (List ℕ)) → length cells ≡ length header
    → kept_fault (map (looks_of default_form) header) r c cells ≡ cell_fault r c cells
fault_all [] r c [] h = refl
fault_all [] r c (cell ∷ cells) h = cc h
fault_all (name ∷ header) r c [] h = refl
fault_all (name ∷ header) r c (cell ∷ cells) h = elim (cases_Bool (is_some (number_of cell))) [
  | inl some ↦ rw some (fault_all header r (c + 1) cells (omega (arith, h)))
  | inr bad ↦ rw bad refl
]

names_all : (header : List (List ℕ)) → kept_names (map (looks_of default_form) header) header ≡ header
names_all [] = refl
names_all (name ∷ header) = ap (λ l. name ∷ l) (names_all header)

equal_of : (a b : ℕ) → (a == b) ≡ true → a ≡ b
equal_of a b e = grind (arith, nat_tests, e)

row_all : (header : List (List ℕ)) (r : ℕ) (row : List (List ℕ))
    → row_fault_in (map (looks_of default_form) header) r row ≡ row_fault (length header) r row
row_all header r row = rw (length-map header (looks_of default_form)) (elim (cases_Bool (length row == length header)) [
  | inl same ↦ rw same (fault_all header r 1 row (equal_of (length row) (length header) same))
  | inr other ↦ rw other refl
])

rows_all : (header : List (List ℕ)) (r : ℕ) (rows : List (List (List ℕ)))
    → rows_fault_in (map (looks_of default_form) header) r rows ≡ rows_fault (length header) r rows
rows_all header r [] = refl
rows_all header r (row ∷ rows) = rw (row_all header r row, rows_all header (r + 1) rows) refl

both_none : (a b : Option ColumnFault) → option_or a b ≡ None → (a ≡ None) × (b ≡ None)
both_none None b h = (refl, h)
both_none (Some fault) b h = cc h

row_long : (width r : ℕ) (row : List (List ℕ)) → row_fault width r row ≡ None → length row ≡ width
row_long width r row h = elim (cases_Bool (length row == width)) [
  | inl same ↦ equal_of (length row) width same
  | inr other ↦ cc (rw other at h)
]

good_all : (header : List (List ℕ)) (r : ℕ) (rows : List (List (List ℕ))) → rows_fault (length header) r rows ≡ None
    → map (kept (map (looks_of default_form) header)) rows ≡ rows
good_all header r [] h = refl
good_all header r (row ∷ rows) h =
    let (here, later) = both_none (row_fault (length header) r row) (rows_fault (length header) (r + 1) rows) h in
    rw (kept_all header row (row_long (length header) r row here), good_all header (r + 1) rows later) refl

not_filled : (row : List (List ℕ)) → map (filled None) row ≡ row
not_filled [] = refl
not_filled (cell ∷ row) = ap (λ l. cell ∷ l) (not_filled row)

none_filled : (rows : List (List (List ℕ))) → filled_rows None rows ≡ rows
none_filled [] = refl
none_filled (row ∷ rows) = rw (not_filled row, none_filled rows) refl

-- a fault hides the columns
hidden : (a : Option ColumnFault) (fault : ColumnFault) (one other : List NamedColumn)
    → unless (option_or a (Some fault)) one ≡ unless (option_or a (Some fault)) other
hidden None fault one other = refl
hidden (Some cause) fault one other = refl

by_fault : (header : List (List ℕ)) (rows : List (List (List ℕ))) (o : Option ColumnFault)
    → rows_fault (length header) 1 rows ≡ o
    → unless (option_or (header_fault header) o)
    (columns_under header (map (kept (map (looks_of default_form) header)) rows))
    ≡ unless (option_or (header_fault header) o) (columns_under header rows)
by_fault header rows None e = ap (λ r. unless (option_or (header_fault header) None) (columns_under header r))
    (good_all header 1 rows e)
by_fault header rows (Some fault) e = hidden (header_fault header) fault
    (columns_under header (map (kept (map (looks_of default_form) header)) rows)) (columns_under header rows)

as_before : (records : List (List (List ℕ))) → table_by default_form records ≡ table_of records
as_before [] = refl
as_before (header ∷ rows) =
    rw (none_filled rows, names_all header, rows_all header 1 rows)
    (by_fault header rows (rows_fault (length header) 1 rows) refl)

pub tables_are_as_before : AreAsBefore
tables_are_as_before bytes = as_before (records_of bytes)

before_of : (bytes : List ℕ) (answer : Result (List NamedColumn) ColumnFault) → IsAnswerBy default_form bytes answer
    → IsAnswerTo bytes answer
before_of bytes (Ok columns) is = sym (tables_are_as_before bytes) ∙ is
before_of bytes (Err fault) is = λ no_read no_memory. sym (tables_are_as_before bytes) ∙ is no_read no_memory

pub answer_before : (form : AbstractForm) → form ≡ default_form
    → (bytes : List ℕ) (answer : Result (List NamedColumn) ColumnFault) → IsAnswerBy form bytes answer
    → IsAnswerTo bytes answer
answer_before form same bytes answer is = before_of bytes answer (subst (λ f. IsAnswerBy f bytes answer) same is)

pub known_before : (form : AbstractForm) → form ≡ default_form
    → (known : Option (List ℕ)) (answer : Result (List NamedColumn) ColumnFault)
    → IfSome known (λ bytes. IsAnswerBy form bytes answer)
    → IfSome known (λ bytes. IsAnswerTo bytes answer)
known_before form same None answer is = tt
known_before form same (Some bytes) answer is = answer_before form same bytes answer is

pub all_before : (form : AbstractForm) → form ≡ default_form
    → (known : Option (List ℕ)) (all : List ℕ) (answer : Result (List NamedColumn) ColumnFault)
    → IfSome known (λ left. all ≡ left)
    → IsAnswerBy form all answer → IfSome known (λ bytes. IsAnswerTo bytes answer)
all_before form same None all answer whole is = tt
all_before form same (Some left) all answer whole is = rw (sym whole) (answer_before form same all answer is)

-- ---- what a cut leaves

-- two faults but for their columns
abbrev Alike : Option ColumnFault → Option ColumnFault → Type 0
Alike a b = option_map without_column a ≡ option_map without_column b

-- the cells that the looks of one cell read, and others after them
seen_faults : (m : List ℕ) (r d : ℕ) (cell : List ℕ) (cells : List (List ℕ)) → is_good m cell ≡ true
    → cell_fault r d (seen m cell ++ cells) ≡ cell_fault r (d + length m) cells
seen_faults [] r d cell cells good =
    let same : d + 0 ≡ d = omega arith in
    rw same refl
seen_faults (p ∷ m) r d cell cells good = elim (cases_Bool (is_some (number_of (scaled p cell)))) [
  | inl some ↦
      let on : d + 1 + length m ≡ d + length (p ∷ m) = omega arith in
      rw some (seen_faults m r (d + 1) cell cells (rw some at good) ∙ ap (λ c. cell_fault r c cells) on)
  | inr bad ↦ cc (rw bad at good)
]

seen_bad : (m : List ℕ) (r c d : ℕ) (cell : List ℕ) (cells : List (List ℕ)) → is_good m cell ≡ false
    → Alike (Some (BadNumber r c)) (cell_fault r d (seen m cell ++ cells))
seen_bad [] r c d cell cells bad = cc bad
seen_bad (p ∷ m) r c d cell cells bad = elim (cases_Bool (is_some (number_of (scaled p cell)))) [
  | inl some ↦ rw some (seen_bad m r c (d + 1) cell cells (rw some at bad))
  | inr none ↦ rw none refl
]

alike_cells : (looks : List (List ℕ)) (r c d : ℕ) (cells : List (List ℕ)) → length cells ≡ length looks
    → Alike (kept_fault looks r c cells) (cell_fault r d (kept looks cells))
alike_cells [] r c d cells h = refl
alike_cells (m ∷ looks) r c d [] h = refl
alike_cells (m ∷ looks) r c d (cell ∷ cells) h = elim (cases_Bool (is_good m cell)) [
  | inl good ↦ rw (good, seen_faults m r d cell (kept looks cells) good)
      (alike_cells looks r (c + 1) (d + length m) cells (omega (arith, h)))
  | inr bad ↦ rw bad (seen_bad m r c d cell (kept looks cells) bad)
]

alike_row : (looks : List (List ℕ)) (header : List (List ℕ)) (r : ℕ) (row : List (List ℕ))
    → length header ≡ length looks → length row ≡ length looks
    → Alike (row_fault_in looks r row) (row_fault (length (kept_names looks header)) r (kept looks row))
alike_row looks header r row h k =
    let wide : length (kept looks row) ≡ length (kept_names looks header) =
    length-kept looks row k ∙ sym (length-kept_names looks header h) in
    rw (
      same_length (length row) (length looks) k,
      same_length (length (kept looks row)) (length (kept_names looks header)) wide,
    ) (alike_cells looks r 1 1 row k)

alike_or : (a b c d : Option ColumnFault) → Alike a b → Alike c d → Alike (option_or a c) (option_or b d)
alike_or None None c d h k = k
alike_or None (Some y) c d h k = cc h
alike_or (Some x) None c d h k = cc h
alike_or (Some x) (Some y) c d h k = h

alike_rows : (looks : List (List ℕ)) (header : List (List ℕ)) (r : ℕ) (rows : List (List (List ℕ)))
    → length header ≡ length looks → All (λ row. length row ≡ length looks) rows
    → Alike (rows_fault_in looks r rows) (rows_fault (length (kept_names looks header)) r (map (kept looks) rows))
alike_rows looks header r [] h long = refl
alike_rows looks header r (row ∷ rows) h long =
    alike_or (row_fault_in looks r row) (row_fault (length (kept_names looks header)) r (kept looks row))
    (rows_fault_in looks (r + 1) rows)
    (rows_fault (length (kept_names looks header)) (r + 1) (map (kept looks) rows))
    (alike_row looks header r row h (long 0 row (omega arith)))
    (alike_rows looks header (r + 1) rows h (λ i d within. long (suc i) d (omega (arith, within))))

alike_answers : (a b : Option ColumnFault) (columns : List NamedColumn) → Alike a b
    → without_place (unless a columns) ≡ without_place (unless b columns)
alike_answers None None columns h = refl
alike_answers None (Some y) columns h = cc h
alike_answers (Some x) None columns h = cc h
alike_answers (Some x) (Some y) columns h = ap Err (cc h)

long_rows : (b : Option ℤ) (width : ℕ) (rows : List (List (List ℕ))) → All (λ row. length row ≡ width) rows
    → All (λ row. length row ≡ width) (filled_rows b rows)
long_rows b width [] long i d within = absurd (omega (arith, within))
long_rows b width (row ∷ rows) long zero d within = length-map row (filled b) ∙ long 0 row (omega arith)
long_rows b width (row ∷ rows) long (suc i) d within =
    long_rows b width rows (λ j e room. long (suc j) e (omega (arith, room))) i d (omega (arith, within))

pub cut_leaves : AreWhatACutLeaves
cut_leaves form header rows long =
    let looks = map (looks_of form) header in
    let wide : length looks ≡ length header = length-map header (looks_of form) in
    let cells = filled_rows form.blank rows in
    let all : All (λ row. length row ≡ length looks) cells = long_rows form.blank (length looks) rows (rw wide long) in
    alike_answers (option_or (header_fault (kept_names looks header)) (rows_fault_in looks 1 cells))
    (option_or (header_fault (kept_names looks header))
    (rows_fault (length (kept_names looks header)) 1 (map (kept looks) cells)))
    (columns_under (kept_names looks header) (map (kept looks) cells))
    (alike_or (header_fault (kept_names looks header)) (header_fault (kept_names looks header))
    (rows_fault_in looks 1 cells) (rows_fault (length (kept_names looks header)) 1 (map (kept looks) cells)) refl
    (alike_rows looks header 1 cells (sym wide) all))
