-- A header and rows of cells, one more name, cell or row at a time.
use Rattle.std.proofs.Common.{◌≡◌, ◌<◌, ◌≤◌, ◌+◌, ℕ, ℤ, zero, suc, List, [], ◌∷◌, ◌++◌, Bool, true, false, ◌||◌, Some}
use Rattle.std.proofs.Common.{None, length, map, take, drop, get_or, set, refl, sym, ap, ◌∙◌, arith}
use Rattle.std.proofs.lemmas.List.{drop_more, take_more_set, drop-set-lt, append_assoc, get_or-map, length-append}
use Rattle.std.proofs.lemmas.List.{length-map, map-set}
use Rattle.std.proofs.Math.Seq.{drop-append-add, drop-append_seam, get_or-append_seam}
use Rattle.std.specs.Prelude.{slice_get}
use Rattle.std.specs.List.{list_any}
use Rattle.std.specs.Str.{bytes_eq}
use Rattle.csv.specs.Records.{field_at}
use Rattle.tables.specs.declared.table.Column.{Column}
use Rattle.std.specs.Borrow.{Bor}
use Rattle.csv.specs.declared.reader.Reader.{Reader}
use Rattle.columns.specs.declared.fault.ColumnFault.{ColumnFault}
use Rattle.columns.specs.declared.layout.Layout.{Layout}
use Rattle.columns.specs.Fronts.{fault_by, kept_rows}
use Rattle.columns.specs.Layouts.{looks_in}
use Rattle.columns.specs.Records.{GaveNext, IsReading}
use Rattle.columns.specs.Number.{number_of}
use Rattle.columns.specs.Refusals.{has_twice}
use Rattle.columns.specs.Table.{columns_under}
use Rattle.tables.specs.Table.{NamedColumn}
use Rattle.columns.specs.TableForms.{filled, kept, row_fault_in}
use Rattle.columns.specs.TableOfColumns.{with_row, with_rows}
use Rattle.tables.specs.TableOfColumns.{named}

-- a field of a record is an element of the list of its fields
pub field_at_is : (fields : List (List ℕ)) (i : ℕ) → field_at fields i ≡ slice_get fields i
unfolding field_at
field_at_is [] i = refl
field_at_is (f ∷ fields) zero = refl
field_at_is (f ∷ fields) (suc i) = field_at_is fields i

pub list_any_mapped : {X Y : Type 0} (p : Y → Bool) (f : X → Y) (xs : List X)
    → list_any p (map f xs) ≡ list_any (λ x. p (f x)) xs
list_any_mapped p f [] = refl
list_any_mapped p f (x ∷ xs) = ap (λ b. p (f x) || b) (list_any_mapped p f xs)

-- one name is compared with those after it
pub has_twice_more : (columns : List Column) (i : ℕ) (d : Column) → i < length columns
    → has_twice (map (λ c. c.name.items) (drop i columns))
    ≡ (list_any (λ c. bytes_eq (get_or columns i d).name.items c.name.items) (drop (i + 1) columns)
    || has_twice (map (λ c. c.name.items) (drop (i + 1) columns)))
has_twice_more columns i d h =
    let here = drop_more columns i d h in
    rw here (ap (λ b. b || has_twice (map (λ c. c.name.items) (drop (i + 1) columns)))
    (list_any_mapped (bytes_eq (get_or columns i d).name.items) (λ c. c.name.items) (drop (i + 1) columns)))

-- columns more under names more
pub columns_under-append : (names more : List (List ℕ))
    → columns_under (names ++ more) [] ≡ columns_under names [] ++ columns_under more []
columns_under-append [] more = refl
columns_under-append (n ∷ names) more = ap (λ columns. record { name = n; cells = [] } ∷ columns)
    (columns_under-append names more)

-- the names of the columns under a header are the names of the header
names_under : (names : List (List ℕ)) → map (λ c. c.name) (columns_under names []) ≡ names
names_under [] = refl
names_under (name ∷ names) = ap (λ l. name ∷ l) (names_under names)

names_of : (columns : List Column) → map (λ c. c.name) (map named columns) ≡ map (λ c. c.name.items) columns
names_of [] = refl
names_of (c ∷ columns) = ap (λ l. c.name.items ∷ l) (names_of columns)

pub names_under_header : (columns : List Column) (names : List (List ℕ)) → map named columns ≡ columns_under names []
    → map (λ c. c.name.items) columns ≡ names
names_under_header columns names e = sym (names_of columns) ∙ ap (map (λ c. c.name)) e ∙ names_under names

-- the number of a row's cell goes under its column
with_row_more : (columns : List NamedColumn) (fields : List (List ℕ)) (i : ℕ) (c : NamedColumn) (n : ℤ)
    → i < length columns → i < length fields
    → number_of (get_or fields i []) ≡ Some n → c ≡ get_or columns i c
    → take (i + 1) (set columns i record c { cells = c.cells ++ n ∷ [] }) ++ with_row
    (drop (i + 1) (set columns i record c { cells = c.cells ++ n ∷ [] })) (drop (i + 1) fields)
    ≡ take i columns ++ with_row (drop i columns) (drop i fields)
with_row_more columns fields i c n in_columns in_fields value here =
    let after = record c { cells = c.cells ++ n ∷ [] } in
    let rest = with_row (drop (i + 1) columns) (drop (i + 1) fields) in
    let front : take (i + 1) (set columns i after) ≡ take i columns ++ after ∷ [] =
    take_more_set columns i after in_columns in
    let back : drop (i + 1) (set columns i after) ≡ drop (i + 1) columns =
    drop-set-lt (i + 1) columns i after (omega arith) in
    let split : drop i columns ≡ c ∷ drop (i + 1) columns =
    drop_more columns i c in_columns ∙ ap (λ k. k ∷ drop (i + 1) columns) (sym here) in
    let cells : drop i fields ≡ get_or fields i [] ∷ drop (i + 1) fields = drop_more fields i [] in_fields in
    rw (front, back, split, cells, value) (append_assoc (take i columns) (after ∷ []) rest)

-- the rows that a reader has left, from row n on, give the fault and the table that all rows give, over the columns so
-- far; the first of all is row f
pub record RowsLeft (l : Layout) (f : ℕ) (reader : Reader (Bor (List ℕ))) (n : ℕ) (now start : List NamedColumn)
    (rows : List (List (List ℕ))) : Type 0 where
  pub left : List (List (List ℕ))
  pub reading : IsReading reader left
  pub faults : fault_by l n left ≡ fault_by l f rows
  pub table : with_rows now (kept_rows l left) ≡ with_rows start (kept_rows l rows)

-- no row is left
pub RowsLeft-end : (l : Layout) (a b : Reader (Bor (List ℕ))) (f n : ℕ) (now start : List NamedColumn)
    (rows : List (List (List ℕ))) (found : Bool) (fields : List (List ℕ))
    → (s : RowsLeft l f a n now start rows) → GaveNext s.left found fields b → found ≡ false
    → (fault_by l f rows ≡ None) × (now ≡ with_rows start (kept_rows l rows))
RowsLeft-end l a b f n now start rows found fields s gave none =
    let end = rw none at gave in
    (sym s.faults ∙ ap (fault_by l n) end, ap (λ left. with_rows now (kept_rows l left)) (sym end) ∙ s.table)

-- a row more is read
pub RowsLeft-more : (l : Layout) (a b : Reader (Bor (List ℕ))) (f n : ℕ) (now next start : List NamedColumn)
    (rows : List (List (List ℕ))) (found : Bool) (fields : List (List ℕ))
    → (s : RowsLeft l f a n now start rows) → GaveNext s.left found fields b → found ≡ true
    → row_fault_in (looks_in l) n (map (filled l.blank) fields) ≡ None
    → next ≡ with_row now (kept (looks_in l) (map (filled l.blank) fields)) → RowsLeft l f b (n + 1) next start rows
RowsLeft-more l a b f n now next start rows found fields s gave some good put =
    let (others, split, after) = rw some at gave in
    let one : fault_by l n (fields ∷ others) ≡ fault_by l (n + 1) others = rw good refl in
    record {
      left = others;
      reading = after;
      faults = sym one ∙ ap (fault_by l n) (sym split) ∙ s.faults;
      table = ap (λ c. with_rows c (kept_rows l others)) put ∙ ap (λ left. with_rows now (kept_rows l left)) (sym split)
          ∙ s.table;
    }

-- a row is no good
pub RowsLeft-fault : (l : Layout) (a b : Reader (Bor (List ℕ))) (f n : ℕ) (now start : List NamedColumn)
    (rows : List (List (List ℕ))) (found : Bool) (fields : List (List ℕ)) (fault : ColumnFault)
    → (s : RowsLeft l f a n now start rows) → GaveNext s.left found fields b → found ≡ true
    → row_fault_in (looks_in l) n (map (filled l.blank) fields) ≡ Some fault
    → fault_by l f rows ≡ Some fault
RowsLeft-fault l a b f n now start rows found fields fault s gave some bad =
    let (others, split, after) = rw some at gave in
    let one : fault_by l n (fields ∷ others) ≡ Some fault = rw bad refl in
    sym s.faults ∙ ap (fault_by l n) split ∙ one

-- the column at a place of the header, under its name, and those after it
pub has_twice_at : (columns : List Column) (i : ℕ) (column : Column) (name : List ℕ) (others : List Column) (b : Bool)
    → i < length columns
    → column ≡ get_or columns i column → name ≡ column.name.items → others ≡ drop (i + 1) columns
    → b ≡ list_any (λ c. bytes_eq name c.name.items) others
    → has_twice (map (λ c. c.name.items) (drop i columns))
    ≡ (b || has_twice (map (λ c. c.name.items) (drop (i + 1) columns)))
has_twice_at columns i column name others b h here is rest found =
    has_twice_more columns i column h
    ∙ ap (λ a. a || has_twice (map (λ c. c.name.items) (drop (i + 1) columns)))
    (rw (sym here, sym is, sym rest) (sym found))

-- past the last element
pub slice_get_end : (fields : List (List ℕ)) (i : ℕ) → slice_get fields i ≡ None → length fields ≤ i
slice_get_end [] i h = omega arith
slice_get_end (f ∷ fields) zero h = cc h
slice_get_end (f ∷ fields) (suc i) h = omega (arith, slice_get_end fields i h)

pub get_or_end : (fields : List (List ℕ)) (i : ℕ) → slice_get fields i ≡ None → get_or fields i [] ≡ []
get_or_end [] i h = refl
get_or_end (f ∷ fields) zero h = cc h
get_or_end (f ∷ fields) (suc i) h = get_or_end fields i h

-- of columns in memory, the column at the place is now a, with the number at its end
pub put_number : (columns : List Column) (fields : List (List ℕ)) (i : ℕ) (c a : Column) (n : ℤ) → i < length columns
    → i < length fields
    → number_of (get_or fields i []) ≡ Some n → c ≡ get_or columns i c
    → named a ≡ record { name = c.name.items; cells = c.cells.items ++ n ∷ [] }
    → take (i + 1) (map named (set columns i a))
    ++ with_row (drop (i + 1) (map named (set columns i a))) (drop (i + 1) fields)
    ≡ take i (map named columns) ++ with_row (drop i (map named columns)) (drop i fields)
put_number columns fields i c a n in_columns in_fields value here grown =
    let there : named c ≡ get_or (map named columns) i (named c) =
    ap named here ∙ sym (get_or-map named columns i c (named c) in_columns) in
    rw (map-set named columns i a, grown)
    (with_row_more (map named columns) fields i (named c) n (rw length-map in_columns) in_fields value there)

-- a cell more is put under its column
pub put_more : (columns : List Column) (cells : List (List ℕ)) (cell : List ℕ) (more : List (List ℕ)) (count : ℕ)
    (c a : Column) (n : ℤ) → count < length columns → length cells ≡ count
    → number_of cell ≡ Some n → c ≡ get_or columns count c
    → named a ≡ record { name = c.name.items; cells = c.cells.items ++ n ∷ [] }
    → take (count + 1) (map named (set columns count a))
    ++ with_row (drop (count + 1) (map named (set columns count a))) more
    ≡ take count (map named columns) ++ with_row (drop count (map named columns)) (cell ∷ more)
put_more columns cells cell more count c a n within wide number here grown =
    let fields = cells ++ cell ∷ more in
    let in_fields : count < length fields = omega (arith, wide, length-append cells (cell ∷ more)) in
    let is : get_or fields count [] ≡ cell = rw (sym wide) (get_or-append_seam cells cell more []) in
    let from : drop count fields ≡ cell ∷ more = rw (sym wide) (drop-append_seam cells (cell ∷ more)) in
    let after : drop (count + 1) fields ≡ more = rw (sym wide) (drop-append-add cells (cell ∷ more) 1) in
    let put = put_number columns fields count c a n within in_fields (rw is number) here grown in
    rw (after, from) at put

-- rows, and then others
pub with_rows-append : (columns : List NamedColumn) (a b : List (List (List ℕ)))
    → with_rows columns (a ++ b) ≡ with_rows (with_rows columns a) b
with_rows-append columns [] b = refl
with_rows-append columns (row ∷ a) b = with_rows-append (with_row columns row) a b
