-- Looks at the columns of a header, and the cells of a row as these read them.
use Rattle.std.proofs.Common.{◌≡◌, ◌<◌, ◌≤◌, ◌+◌, ◌++◌, ◌∷◌, ◌∙◌, ◌==◌, [], ℕ, ℤ, zero, suc, List, true, false, Some}
use Rattle.std.proofs.Common.{None, refl, sym, ap, inl, inr, arith, append_assoc, length, map, take, drop, get_or, set}
use Rattle.std.proofs.Common.{if◌then◌else◌}
use Rattle.std.proofs.Math.Seq.{drop-append-add, take-append-add}
use Rattle.std.proofs.lemmas.List.{append-nil, drop_more, length-append, length-map, length-take, map_push, take_more}
use Rattle.std.proofs.lemmas.List.Folds.{list_all-append}
use Rattle.std.proofs.lemmas.Bool.{cases_Bool}
use Rattle.std.proofs.lemmas.Bool.Decides.{nat_tests}
use Rattle.std.specs.Prelude.{is_some}
use Rattle.job_names.specs.ColumnKeys.{key_of}
use Rattle.columns.specs.declared.fault.ColumnFault.TheVariants.{BadNumber}
use Rattle.tables.specs.declared.table.Column.{Column}
use Rattle.columns.specs.Decimals.{scaled}
use Rattle.columns.specs.Number.{number_of}
use Rattle.tables.specs.Table.{NamedColumn}
use Rattle.columns.specs.TableForms.{is_good, kept, kept_fault, kept_names, row_fault_in, seen}
use Rattle.columns.specs.TableOfColumns.{with_row}
use Rattle.tables.specs.TableOfColumns.{named}
use Rattle.columns.specs.TextRows.{IsCellPut, look_count}
use Rattle.columns.proofs.RowLemmas.{put_more}

-- looks and cells, one more of each
pub kept_more : (looks : List (List ℕ)) (m : List ℕ) (cells : List (List ℕ)) (cell : List ℕ)
    → length cells ≡ length looks
    → kept (looks ++ m ∷ []) (cells ++ cell ∷ []) ≡ kept looks cells ++ seen m cell
kept_more [] m [] cell h = append-nil (seen m cell)
kept_more [] m (d ∷ cells) cell h = cc h
kept_more (x ∷ looks) m [] cell h = cc h
kept_more (x ∷ looks) m (d ∷ cells) cell h =
    ap (λ l. seen x d ++ l) (kept_more looks m cells cell (omega (arith, h)))
    ∙ sym (append_assoc (seen x d) (kept looks cells) (seen m cell))

pub length-seen : (m : List ℕ) (cell : List ℕ) → length (seen m cell) ≡ length m
length-seen m cell = length-map m (λ p. scaled p cell)

pub length-kept : (looks : List (List ℕ)) (cells : List (List ℕ)) → length cells ≡ length looks
    → length (kept looks cells) ≡ look_count looks
length-kept [] cells h = refl
length-kept (m ∷ looks) [] h = cc h
length-kept (m ∷ looks) (d ∷ cells) h = omega
    (arith, length-append (seen m d) (kept looks cells), length-seen m d, length-kept looks cells (omega (arith, h)))

pub length-kept_names : (looks : List (List ℕ)) (names : List (List ℕ)) → length names ≡ length looks
    → length (kept_names looks names) ≡ look_count looks
length-kept_names [] names h = refl
length-kept_names (m ∷ looks) [] h = cc h
length-kept_names (m ∷ looks) (n ∷ names) h =
    omega (
      arith,
      length-append (map (key_of n) m) (kept_names looks names),
      length-map m (key_of n),
      length-kept_names looks names (omega (arith, h)),
    )

pub kept_fault_more : (looks : List (List ℕ)) (m : List ℕ) (r c : ℕ) (cells : List (List ℕ)) (cell : List ℕ)
    → length cells ≡ length looks
    → is_good m cell ≡ true → kept_fault looks r c cells ≡ None
    → kept_fault (looks ++ m ∷ []) r c (cells ++ cell ∷ []) ≡ None
kept_fault_more [] m r c [] cell h is good = rw is refl
kept_fault_more [] m r c (d ∷ cells) cell h is good = cc h
kept_fault_more (x ∷ looks) m r c [] cell h is good = cc h
kept_fault_more (x ∷ looks) m r c (d ∷ cells) cell h is good = elim (cases_Bool (is_good x d)) [
  | inl here ↦ rw here (kept_fault_more looks m r (c + 1) cells cell (omega (arith, h)) is (rw here at good))
  | inr other ↦ cc (rw other at good)
]

pub look_count-more : (looks : List (List ℕ)) (m : List ℕ) → look_count (looks ++ m ∷ []) ≡ look_count looks + length m
look_count-more [] m = omega arith
look_count-more (x ∷ looks) m = omega (arith, look_count-more looks m)

pub looks_more : (looks : List (List ℕ)) (i : ℕ) (m : List ℕ) → i < length looks → get_or looks i [] ≡ m
    → take (i + 1) looks ≡ take i looks ++ m ∷ []
looks_more looks i m h is = take_more looks i [] h ∙ ap (λ l. take i looks ++ l ∷ []) is

-- of the looks up to a place
pub look_count_up : (looks : List (List ℕ)) (i : ℕ) (m : List ℕ) → i < length looks → get_or looks i [] ≡ m
    → look_count (take (i + 1) looks) ≡ look_count (take i looks) + length m
look_count_up looks i m h is = ap look_count (looks_more looks i m h is) ∙ look_count-more (take i looks) m

pub look_count-le : (looks : List (List ℕ)) (i : ℕ) → look_count (take i looks) ≤ look_count looks
look_count-le looks zero = omega arith
look_count-le [] (suc i) = omega arith
look_count-le (m ∷ looks) (suc i) = omega (arith, look_count-le looks i)

-- each look has a column
pub look_room : (looks : List (List ℕ)) (i : ℕ) (m : List ℕ) → i < length looks → get_or looks i [] ≡ m
    → look_count (take i looks) + length m ≤ look_count looks
look_room looks i m h is = omega (arith, look_count-le looks (i + 1), look_count_up looks i m h is)

pub same_length : (a b : ℕ) → a ≡ b → (a == b) ≡ true
same_length a b e = grind (arith, nat_tests, e)

-- a header with a look has a column
pub some_look : (looks : List (List ℕ)) → 0 < look_count looks → 0 < length looks
some_look [] h = absurd (omega (arith, h))
some_look (m ∷ looks) h = omega arith

-- keys, one name more
names_more : (looks : List (List ℕ)) (m : List ℕ) (names : List (List ℕ)) (name : List ℕ) → length names ≡ length looks
    → kept_names (looks ++ m ∷ []) (names ++ name ∷ []) ≡ kept_names looks names ++ map (key_of name) m
names_more [] m [] name h = append-nil (map (key_of name) m)
names_more [] m (d ∷ names) name h = cc h
names_more (x ∷ looks) m [] name h = cc h
names_more (x ∷ looks) m (d ∷ names) name h =
    ap (λ l. map (key_of d) x ++ l) (names_more looks m names name (omega (arith, h)))
    ∙ sym (append_assoc (map (key_of d) x) (kept_names looks names) (map (key_of name) m))

pub kept_names_up : (looks : List (List ℕ)) (names : List (List ℕ)) (i : ℕ) (m : List ℕ) → length names ≡ length looks
    → i < length looks → get_or looks i [] ≡ m
    → kept_names (take (i + 1) looks) (take (i + 1) names)
    ≡ kept_names (take i looks) (take i names) ++ map (key_of (get_or names i [])) m
kept_names_up looks names i m wide room is =
    let front : length (take i names) ≡ length (take i looks) =
    omega (arith, length-take i names, length-take i looks, wide, room) in
    rw (looks_more looks i m room is, take_more names i [] (omega (arith, wide, room)))
    (names_more (take i looks) m (take i names) (get_or names i []) front)

-- ---- a cell, number by number

pub IsCellPut-none : (cell : List ℕ) (before : List NamedColumn) → IsCellPut [] cell before before
IsCellPut-none cell before = record { good = refl; put = λ more. refl }

-- a number more under its column
pub IsCellPut-more : (m : List ℕ) (p : ℕ) (cell : List ℕ) (before : List NamedColumn) (columns : List Column)
    (count : ℕ) (c a : Column) (n : ℤ) → IsCellPut m cell before (map named columns)
    → count ≡ length m → count < length columns → number_of (scaled p cell) ≡ Some n → c ≡ get_or columns count c
    → named a ≡ record { name = c.name.items; cells = c.cells.items ++ n ∷ [] }
    → IsCellPut (m ++ p ∷ []) cell before (map named (set columns count a))
IsCellPut-more m p cell before columns count c a n so_far which within number here grown =
    let some : is_some (number_of (scaled p cell)) ≡ true = rw number refl in
    let width : length (m ++ p ∷ []) ≡ count + 1 = omega (arith, length-append m (p ∷ []), which) in
    let all_seen : seen (m ++ p ∷ []) cell ≡ seen m cell ++ scaled p cell ∷ [] = map_push (λ q. scaled q cell) m p in
    let before_put = rw (sym which) at so_far.put in
    record {
      good = list_all-append (λ q. is_some (number_of (scaled q cell))) m (p ∷ []) ∙ rw (so_far.good, some) refl;
      put = λ more. rw (width, all_seen)
          (put_more columns (seen m cell) (scaled p cell) more count c a n within (length-seen m cell ∙ sym which)
          number here grown
          ∙ before_put (scaled p cell ∷ more)
          ∙ ap (with_row before) (sym (append_assoc (seen m cell) (scaled p cell ∷ []) more)));
    }

-- one look that reads no number makes the cell bad
pub bad_look : (m : List ℕ) (i : ℕ) (cell : List ℕ) → i < length m → number_of (scaled (get_or m i 0) cell) ≡ None
    → is_good m cell ≡ false
bad_look [] i cell h none = absurd (omega (arith, h))
bad_look (p ∷ m) zero cell h none = rw none refl
bad_look (p ∷ m) (suc i) cell h none = elim (cases_Bool (is_some (number_of (scaled p cell)))) [
  | inl some ↦ rw some (bad_look m i cell (omega (arith, h)) none)
  | inr other ↦ rw other refl
]

-- ---- a row, cell by cell

-- columns of which those from some place on are others
pub joined_put : (now sub : List NamedColumn) (column k : ℕ) (rest : List (List ℕ)) → column ≤ length now
    → take (column + k) (take column now ++ sub) ++ with_row (drop (column + k) (take column now ++ sub)) rest
    ≡ take column now ++ (take k sub ++ with_row (drop k sub) rest)
joined_put now sub column k rest h =
    let front = take column now in
    let long : column ≡ length front = omega (arith, length-take column now, h) in
    let taken : take (column + k) (front ++ sub) ≡ front ++ take k sub =
    ap (λ n. take (n + k) (front ++ sub)) long ∙ take-append-add front sub k in
    let dropped : drop (column + k) (front ++ sub) ≡ drop k sub =
    ap (λ n. drop (n + k) (front ++ sub)) long ∙ drop-append-add front sub k in
    rw (taken, dropped) (append_assoc front (take k sub) (with_row (drop k sub) rest))

kept_at : (looks : List (List ℕ)) (cells : List (List ℕ)) (i : ℕ) (m : List ℕ) → i < length looks → i < length cells
    → get_or looks i [] ≡ m
    → kept (drop i looks) (drop i cells) ≡ seen m (get_or cells i []) ++ kept (drop (i + 1) looks) (drop (i + 1) cells)
kept_at looks cells i m h k is = rw (drop_more looks i [] h, drop_more cells i [] k, is) refl

kept_fault_at : (looks : List (List ℕ)) (cells : List (List ℕ)) (r i : ℕ) (m : List ℕ) → i < length looks
    → i < length cells → get_or looks i [] ≡ m
    → kept_fault (drop i looks) r (i + 1) (drop i cells)
    ≡ (if is_good m (get_or cells i []) then kept_fault (drop (i + 1) looks) r (i + 1 + 1) (drop (i + 1) cells)
    else Some (BadNumber r (i + 1)))
kept_fault_at looks cells r i m h k is = rw (drop_more looks i [] h, drop_more cells i [] k, is) refl

-- the cells before a place have no fault and stand in their columns; what is left of the row is still to be put
pub record RowSoFar (looks : List (List ℕ)) (cells : List (List ℕ)) (r place column : ℕ)
    (now before : List NamedColumn) : Type 0 where
  pub which : column ≡ look_count (take place looks)
  pub faults : kept_fault (drop place looks) r (place + 1) (drop place cells) ≡ kept_fault looks r 1 cells
  pub put : take column now ++ with_row (drop column now) (kept (drop place looks) (drop place cells))
      ≡ with_row before (kept looks cells)

pub RowSoFar-none : (looks : List (List ℕ)) (cells : List (List ℕ)) (r : ℕ) (before : List NamedColumn)
    → RowSoFar looks cells r 0 0 before before
RowSoFar-none looks cells r before = record { which = refl; faults = refl; put = refl }

pub RowSoFar-cell : (looks : List (List ℕ)) (cells : List (List ℕ)) (r place column : ℕ)
    (now before sub : List NamedColumn) (m : List ℕ) → length cells ≡ length looks → place < length looks
    → get_or looks place [] ≡ m → column ≤ length now → IsCellPut m (get_or cells place []) (drop column now) sub
    → RowSoFar looks cells r place column now before
    → RowSoFar looks cells r (place + 1) (column + length m) (take column now ++ sub) before
RowSoFar-cell looks cells r place column now before sub m wide room is within cell so_far =
    let in_cells : place < length cells = omega (arith, wide, room) in
    let good = cell.good in
    let one : kept_fault (drop place looks) r (place + 1) (drop place cells)
    ≡ kept_fault (drop (place + 1) looks) r (place + 1 + 1) (drop (place + 1) cells) =
    kept_fault_at looks cells r place m room in_cells is ∙ rw good refl in
    let rest = kept (drop (place + 1) looks) (drop (place + 1) cells) in
    record {
      which = omega (arith, so_far.which, look_count_up looks place m room is);
      faults = sym one ∙ so_far.faults;
      put = joined_put now sub column (length m) rest within ∙ ap (λ l. take column now ++ l) (cell.put rest)
          ∙ ap (λ more. take column now ++ with_row (drop column now) more)
          (sym (kept_at looks cells place m room in_cells is)) ∙ so_far.put;
    }

pub RowSoFar-bad : (looks : List (List ℕ)) (cells : List (List ℕ)) (r place column : ℕ) (now before : List NamedColumn)
    (m : List ℕ) → length cells ≡ length looks → place < length looks
    → get_or looks place [] ≡ m → is_good m (get_or cells place []) ≡ false
    → RowSoFar looks cells r place column now before → row_fault_in looks r cells ≡ Some (BadNumber r (place + 1))
RowSoFar-bad looks cells r place column now before m wide room is none so_far =
    let one : kept_fault (drop place looks) r (place + 1) (drop place cells) ≡ Some (BadNumber r (place + 1)) =
    kept_fault_at looks cells r place m room (omega (arith, wide, room)) is ∙ rw none refl in
    rw (same_length (length cells) (length looks) wide) (sym so_far.faults ∙ one)

-- the whole row
pub RowSoFar-all : (looks : List (List ℕ)) (cells : List (List ℕ)) (r place column : ℕ) (now before : List NamedColumn)
    → length looks ≤ place → look_count looks ≡ length now
    → RowSoFar looks cells r place column now before
    → (kept_fault looks r 1 cells ≡ None) × (now ≡ with_row before (kept looks cells))
RowSoFar-all looks cells r place column now before past width so_far =
    let none = drop_end looks place past in
    let all : column ≡ length now = omega (arith, so_far.which, width, ap look_count (take_end looks place past)) in (
      sym so_far.faults ∙ rw none refl,
      sym (append-nil now) ∙ ends now column all
          ∙ ap (λ l. take column now ++ with_row (drop column now) (kept l (drop place cells))) (sym none) ∙ so_far.put,
    )
  where
    drop_end : (xs : List (List ℕ)) (i : ℕ) → length xs ≤ i → drop i xs ≡ []
    drop_end [] zero h = refl
    drop_end [] (suc i) h = refl
    drop_end (x ∷ xs) zero h = absurd (omega (arith, h))
    drop_end (x ∷ xs) (suc i) h = drop_end xs i (omega (arith, h))

    take_end : (xs : List (List ℕ)) (i : ℕ) → length xs ≤ i → take i xs ≡ xs
    take_end [] zero h = refl
    take_end [] (suc i) h = refl
    take_end (x ∷ xs) zero h = absurd (omega (arith, h))
    take_end (x ∷ xs) (suc i) h = ap (λ l. x ∷ l) (take_end xs i (omega (arith, h)))

    ends : (xs : List NamedColumn) (i : ℕ) → i ≡ length xs → xs ++ [] ≡ take i xs ++ with_row (drop i xs) []
    ends [] zero h = refl
    ends [] (suc i) h = absurd (omega (arith, h))
    ends (x ∷ xs) zero h = absurd (omega (arith, h))
    ends (x ∷ xs) (suc i) h = ap (λ l. x ∷ l) (ends xs i (omega (arith, h)))
