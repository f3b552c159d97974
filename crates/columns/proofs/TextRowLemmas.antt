-- Rows of which some cells are kept, read where they stand.
use Rattle.std.proofs.Common.{◌≡◌, ◌<◌, ◌≤◌, ◌+◌, ◌++◌, ◌∷◌, ◌∙◌, ◌||◌, ◌==◌, [], ℕ, ℤ, zero, suc, List, Bool, true}
use Rattle.std.proofs.Common.{false, Option, Some, None, refl, sym, ap, inl, inr, arith, append_assoc, length, map}
use Rattle.std.proofs.Common.{take, drop, get_or, set}
use Rattle.std.proofs.lemmas.List.{append-nil, drop-map, take-append-drop, take-map, drop_all, drop_more, drop-set-lt}
use Rattle.std.proofs.lemmas.List.{map_push, take_more_set, length-append, length-drop, length-map, length-take}
use Rattle.std.proofs.lemmas.List.{map-append, take_all, take_more}
use Rattle.std.proofs.lemmas.Bool.{cases_Bool}
use Rattle.std.proofs.lemmas.Option.{same_Some}
use Rattle.std.specs.Option.{option_or}
use Rattle.csv.specs.Machine.{next_record}
use Rattle.csv.specs.Reading.{AreRecords, Reached}
use Rattle.csv.specs.declared.parser.Config.{Config}
use Rattle.csv.specs.declared.parser.State.{State}
use Rattle.csv.specs.declared.parser.State.TheVariants as st
use Rattle.columns.specs.declared.fault.ColumnFault.{ColumnFault}
use Rattle.tables.specs.declared.table.Column.{Column}
use Rattle.columns.specs.Table.{first_number}
use Rattle.tables.specs.Table.{NamedColumn}
use Rattle.columns.specs.TableForms.{config_of, filled, filled_rows, kept, kept_fault, row_fault_in, rows_fault_in}
use Rattle.columns.specs.TableForms.{seen}
use Rattle.columns.specs.TableOfColumns.{with_row, with_rows}
use Rattle.tables.specs.TableOfColumns.{named}
use Rattle.columns.specs.TextRows.{AreCellsIn, AreReadIn, AreRowsIn, Ends, HaveRows, IsBetween, IsBegun, IsCellThere}
use Rattle.columns.specs.TextRows.{IsNumberThere, IsRowIn, IsTextThere, cut_to, look_count}
use Rattle.columns.proofs.KeptLemmas.{IsCellPut-more, IsCellPut-none, joined_put, kept_fault_more, kept_more}
use Rattle.columns.proofs.KeptLemmas.{look_count_up, looks_more, same_length}
use Rattle.columns.proofs.RowLemmas.{with_rows-append}

-- no cells yet
pub AreCellsIn-none : (s : ℕ) (b : Option ℤ) (looks : List (List ℕ)) (xs : List ℕ) (before : List NamedColumn)
    → AreCellsIn s b looks xs xs 0 before before
AreCellsIn-none s b looks xs before = record {
  fields = [];
  wide = refl;
  reads = λ rest. refl;
  good = λ r c. refl;
  put = λ more. refl;
}

-- a cell more, put under the columns from k on
pub AreCellsIn-cell : (s : ℕ) (b : Option ℤ) (looks : List (List ℕ)) (xs ys zs : List ℕ)
    (now before sub : List NamedColumn) (count k : ℕ) (m : List ℕ)
    → count < length looks → get_or looks count [] ≡ m → k ≡ look_count (take count looks) → k ≤ length now
    → AreCellsIn s b looks xs ys count before now → IsCellThere s b m ys false zs (drop k now) sub
    → AreCellsIn s b looks xs zs (count + 1) before (take k now ++ sub)
AreCellsIn-cell s b looks xs ys zs now before sub count k m room is which within so_far there =
    let front = take count looks in
    let fields = so_far.fields in
    let cells = map (filled b) fields in
    let cell = filled b there.cell in
    let all_fields = map_push (filled b) fields there.cell in
    let wide : length cells ≡ length front =
    length-map fields (filled b) ∙ omega (arith, so_far.wide, length-take count looks, room) in
    let looks_up : take (count + 1) looks ≡ front ++ m ∷ [] = looks_more looks count m room is in
    let count_up : look_count (take (count + 1) looks) ≡ k + length m =
    look_count_up looks count m room is ∙ ap (λ n. n + length m) (sym which) in
    let cells_up : kept (take (count + 1) looks) (cells ++ cell ∷ []) ≡ kept front cells ++ seen m cell =
    rw looks_up (kept_more front m cells cell wide) in
    let before_put = rw (sym which) at so_far.put in
    record {
      fields = fields ++ there.cell ∷ [];
      wide = omega (arith, so_far.wide, length-append fields (there.cell ∷ []));
      reads = λ rest. so_far.reads rest ∙ there.reads fields rest;
      good = λ r f. rw (all_fields, looks_up)
          (kept_fault_more front m r f cells cell wide there.is_put.good (so_far.good r f));
      put = λ more. rw (all_fields, count_up, cells_up)
          (joined_put now sub k (length m) more within ∙ ap (λ l. take k now ++ l) (there.is_put.put more)
          ∙ before_put (seen m cell ++ more)
          ∙ ap (with_row before) (sym (append_assoc (kept front cells) (seen m cell) more)));
    }

-- all cells of a row
row_of : (s : ℕ) (b : Option ℤ) (looks : List (List ℕ)) (xs ys : List ℕ) (fields : List (List ℕ))
    (before after : List NamedColumn) → length fields ≡ length looks → look_count looks ≡ length after
    → ((rest : List ℕ) → Ends (next_record (config_of s) st.StartField [] [] (xs ++ rest)) fields (ys ++ rest))
    → ((r : ℕ) → kept_fault looks r 1 (map (filled b) fields) ≡ None)
    → take (look_count looks) after ++ with_row (drop (look_count looks) after) []
    ≡ with_row before (kept looks (map (filled b) fields) ++ []) → IsRowIn s b looks xs ys before after
row_of s b looks xs ys fields before after wide width ends good put =
    let all : length after ≤ look_count looks = omega (arith, width) in
    let whole = rw (
      take_all (look_count looks) after all,
      drop_all (look_count looks) after all,
      append-nil (kept looks (map (filled b) fields)),
    ) at put in
    record {
      row = fields;
      ends = ends;
      good = λ r. rw (same_length (length (map (filled b) fields)) (length looks) (length-map fields (filled b) ∙ wide))
          (good r);
      put = sym (append-nil after) ∙ whole;
    }

-- the last cell of a row
pub IsRowIn-cell : (s : ℕ) (b : Option ℤ) (looks : List (List ℕ)) (xs ys zs : List ℕ)
    (now before sub : List NamedColumn) (count k : ℕ) (m : List ℕ)
    → length looks ≡ count + 1 → get_or looks count [] ≡ m → k ≡ look_count (take count looks)
    → look_count looks ≡ length now → length sub ≡ length (drop k now)
    → AreCellsIn s b looks xs ys count before now → IsCellThere s b m ys true zs (drop k now) sub
    → IsRowIn s b looks xs zs before (take k now ++ sub)
IsRowIn-cell s b looks xs ys zs now before sub count k m long is which width same so_far there =
    let front = take count looks in
    let fields = so_far.fields in
    let cells = map (filled b) fields in
    let cell = filled b there.cell in
    let all_fields = map_push (filled b) fields there.cell in
    let room : count < length looks = omega (arith, long) in
    let wide : length cells ≡ length front =
    length-map fields (filled b) ∙ omega (arith, so_far.wide, length-take count looks, room) in
    let looks_up : looks ≡ front ++ m ∷ [] =
    sym (take_all (count + 1) looks (omega (arith, long))) ∙ looks_more looks count m room is in
    let count_up : look_count looks ≡ k + length m =
    ap look_count (sym (take_all (count + 1) looks (omega (arith, long)))) ∙ look_count_up looks count m room is
    ∙ ap (λ n. n + length m) (sym which) in
    let within : k ≤ length now = omega (arith, width, count_up) in
    let all = cells ++ cell ∷ [] in
    let cells_up : kept looks all ≡ kept front cells ++ seen m cell =
    ap (λ l. kept l all) looks_up ∙ kept_more front m cells cell wide in
    let before_put = rw (sym which) at so_far.put in
    let after = take k now ++ sub in
    let after_wide : look_count looks ≡ length after =
    omega (arith, width, length-append (take k now) sub, length-take k now, length-drop k now, same, within) in
    let good : (r : ℕ) → kept_fault looks r 1 all ≡ None =
    λ r. ap (λ l. kept_fault l r 1 all) looks_up
    ∙ kept_fault_more front m r 1 cells cell wide there.is_put.good (so_far.good r 1) in
    row_of s b looks xs zs (fields ++ there.cell ∷ []) before after
    (omega (arith, so_far.wide, length-append fields (there.cell ∷ []), long)) after_wide
    (λ rest. let (t, is_end, e) = there.reads fields rest in (t, is_end, so_far.reads rest ∙ e))
    (λ r. rw all_fields (good r))
    (rw (all_fields, count_up, cells_up)
    (joined_put now sub k (length m) [] within ∙ ap (λ l. take k now ++ l) (there.is_put.put [])
    ∙ before_put (seen m cell ++ []) ∙ ap (with_row before) (sym (append_assoc (kept front cells) (seen m cell) []))))

-- a cell that isn't looked at, and one of an integer
pub IsCellThere-other : (s : ℕ) (b : Option ℤ) (xs : List ℕ) (is_last : Bool) (ys : List ℕ) (before : List NamedColumn)
    → IsTextThere s xs is_last ys → IsCellThere s b [] xs is_last ys before before
IsCellThere-other s b xs is_last ys before there =
    record { cell = there.cell; reads = there.reads; is_put = IsCellPut-none (filled b there.cell) before }

pub IsCellThere-integer : (s : ℕ) (b : Option ℤ) (xs : List ℕ) (is_last : Bool) (ys : List ℕ) (columns : List Column)
    (c a : Column) (n : ℤ) → 0 < length columns
    → IsNumberThere s b xs n is_last ys → c ≡ get_or columns 0 c
    → named a ≡ record { name = c.name.items; cells = c.cells.items ++ n ∷ [] }
    → IsCellThere s b (0 ∷ []) xs is_last ys (map named columns) (map named (set columns 0 a))
IsCellThere-integer s b xs is_last ys columns c a n within there here grown = record {
  cell = there.cell;
  reads = there.reads;
  is_put = IsCellPut-more [] 0 (filled b there.cell) (map named columns) columns 0 c a n
      (IsCellPut-none (filled b there.cell) (map named columns)) refl within there.number here grown;
}

-- ---- records, for any separator

after_cr : (s : ℕ) (fields : List (List ℕ)) (field xs : List ℕ)
    → next_record (config_of s) st.AfterCr fields field xs ≡ next_record (config_of s) st.StartRecord fields field xs
unfolding next_record
after_cr s fields field [] = refl
after_cr s fields field (c ∷ xs) = elim (cases_Bool (c == 10)) [
  | inl feed ↦ elim (cases_Bool (c == 13)) [
    | inl return ↦ rw (feed, return) refl
    | inr other ↦ rw (feed, other) refl
  ]
  | inr other ↦ rw other refl
]

skip : (s c : ℕ) (xs : List ℕ) → ((c == 13) || (c == 10)) ≡ true
    → next_record (config_of s) st.StartRecord [] [] (c ∷ xs) ≡ next_record (config_of s) st.StartRecord [] [] xs
unfolding next_record
skip s c xs h = rw h refl

record_same : (s : ℕ) (fields : List (List ℕ)) (field : List ℕ) (c : ℕ) (tail : List ℕ)
    → ((c == 13) || (c == 10)) ≡ false
    → next_record (config_of s) st.StartRecord fields field (c ∷ tail)
    ≡ next_record (config_of s) st.StartField fields field (c ∷ tail)
unfolding next_record
record_same s fields field c tail h = rw h refl

start_from : (s : ℕ) (t : State) (xs ys : List ℕ) (rows : List (List (List ℕ)))
    → next_record (config_of s) t [] [] ys ≡ next_record (config_of s) st.StartRecord [] [] xs → AreRowsIn s xs rows
    → AreRecords (config_of s) t ys rows
unfolding Reached
start_from s t xs ys [] e (s2, zs, (a, b), none) = (t, ys, (refl, refl), e ∙ rw (sym a, sym b) at none)
start_from s t xs ys (row ∷ rows) e (s2, zs, (p, first, is, others), none) = (s2, zs, (p, e ∙ first, is, others), none)

AreRowsIn-skip : (s c : ℕ) (xs : List ℕ) (rows : List (List (List ℕ))) → ((c == 13) || (c == 10)) ≡ true
    → AreRowsIn s xs rows → AreRowsIn s (c ∷ xs) rows
AreRowsIn-skip s c xs rows h r = start_from s st.StartRecord xs (c ∷ xs) rows (skip s c xs h) r

between : (s : ℕ) (t : State) (xs : List ℕ) (rows : List (List (List ℕ))) → IsBetween t → AreRowsIn s xs rows
    → AreRecords (config_of s) t xs rows
between s t xs rows (inl e) r = start_from s t xs xs rows (rw e refl) r
between s t xs rows (inr e) r = start_from s t xs xs rows (rw e (after_cr s [] [] xs)) r

pub AreRowsIn-row : (s : ℕ) (xs ys : List ℕ) (row : List (List ℕ)) (rows : List (List (List ℕ)))
    → Ends (next_record (config_of s) st.StartRecord [] [] xs) row ys → AreRowsIn s ys rows
    → AreRowsIn s xs (row ∷ rows)
unfolding Reached
AreRowsIn-row s xs ys row rows (t, is, e) r =
    let (s2, zs, reached, none) = between s t ys rows is r in
    (s2, zs, ((row, t, ys), e, refl, reached), none)

-- a text has one list of records
same_rows : (cfg : Config) (t : State) (xs : List ℕ) (one other : List (List (List ℕ))) → AreRecords cfg t xs one
    → AreRecords cfg t xs other → one ≡ other
unfolding Reached
same_rows cfg t xs [] [] ra rb = refl
same_rows cfg t xs [] (o ∷ others) (s2, zs, (e, f), none) (t2, us, (p, first, is, rest), end) =
    cc (sym (rw (sym e, sym f) at none) ∙ first)
same_rows cfg t xs (a ∷ more) [] (t2, us, (p, first, is, rest), end) (s2, zs, (e, f), none) =
    cc (sym (rw (sym e, sym f) at none) ∙ first)
same_rows cfg t xs (a ∷ more) (o ∷ others) (s2, zs, (p, first, is, rest), none)
    (t2, us, (q, first_too, is_too, rest_too), end) =
    let one : p ≡ q = same_Some p q (sym first ∙ first_too) in
    let later = same_rows cfg q.1 q.2 more others (s2, zs, rw one at rest, none) (t2, us, rest_too, end) in
    rw (is, is_too, one, later) refl

pub AreRowsIn-same : (s : ℕ) (xs : List ℕ) (one other : List (List (List ℕ))) → AreRowsIn s xs one
    → AreRowsIn s xs other → one ≡ other
AreRowsIn-same s xs one other = same_rows (config_of s) st.StartRecord xs one other

pub AreRowsIn-none : (s : ℕ) → AreRowsIn s [] []
unfolding Reached next_record
AreRowsIn-none s = (st.StartRecord, [], (refl, refl), refl)

or_assoc : (a b c : Option ColumnFault) → option_or (option_or a b) c ≡ option_or a (option_or b c)
or_assoc None b c = refl
or_assoc (Some f) b c = refl

rows_fault_in-append : (looks : List (List ℕ)) (r : ℕ) (a b : List (List (List ℕ)))
    → rows_fault_in looks r (a ++ b) ≡ option_or (rows_fault_in looks r a) (rows_fault_in looks (r + length a) b)
rows_fault_in-append looks r [] b =
    let same : r + 0 ≡ r = omega arith in
    rw same refl
rows_fault_in-append looks r (row ∷ a) b =
    let on : r + 1 + length a ≡ r + length (row ∷ a) = omega arith in
    rw (rows_fault_in-append looks (r + 1) a b, on)
    (sym (or_assoc (row_fault_in looks r row) (rows_fault_in looks (r + 1) a)
    (rows_fault_in looks (r + length (row ∷ a)) b)))

pub AreReadIn-none : (s : ℕ) (b : Option ℤ) (looks : List (List ℕ)) (xs : List ℕ) (columns : List NamedColumn)
    → AreReadIn s b looks xs xs columns columns
AreReadIn-none s b looks xs columns = record {
  rows = [];
  reads = λ rest more r. r;
  good = λ r. refl;
  put = refl;
}

-- rows written out, and rows after them
pub fault_more : (looks : List (List ℕ)) (b : Option ℤ) (r : ℕ) (one two : List (List (List ℕ)))
    → rows_fault_in looks r (filled_rows b one) ≡ None
    → rows_fault_in looks r (filled_rows b (one ++ two))
    ≡ rows_fault_in looks (r + length (filled_rows b one)) (filled_rows b two)
fault_more looks b r one two good =
    rw (map-append (map (filled b)) one two, rows_fault_in-append looks r (filled_rows b one) (filled_rows b two), good)
    refl

pub rows_more : (looks : List (List ℕ)) (b : Option ℤ) (a d c : List NamedColumn) (one two : List (List (List ℕ)))
    → d ≡ with_rows a (map (kept looks) (filled_rows b one))
    → c ≡ with_rows d (map (kept looks) (filled_rows b two))
    → c ≡ with_rows a (map (kept looks) (filled_rows b (one ++ two)))
rows_more looks b a d c one two first second =
    second ∙ ap (λ k. with_rows k (map (kept looks) (filled_rows b two))) first
    ∙ sym (with_rows-append a (map (kept looks) (filled_rows b one)) (map (kept looks) (filled_rows b two)))
    ∙ ap (with_rows a) (sym (ap (map (kept looks)) (map-append (map (filled b)) one two)
    ∙ map-append (kept looks) (filled_rows b one) (filled_rows b two)))

-- rows, and then the rows after them
pub AreReadIn-join : (s : ℕ) (b : Option ℤ) (looks : List (List ℕ)) (xs ys zs : List ℕ) (a d c : List NamedColumn)
    → AreReadIn s b looks xs ys a d → AreReadIn s b looks ys zs d c → AreReadIn s b looks xs zs a c
AreReadIn-join s b looks xs ys zs a d c first second = record {
  rows = first.rows ++ second.rows;
  reads = λ rest more r. rw (append_assoc first.rows second.rows more)
      (first.reads rest (second.rows ++ more) (second.reads rest more r));
  good = λ r. fault_more looks b r first.rows second.rows (first.good r)
      ∙ second.good (r + length (filled_rows b first.rows));
  put = rows_more looks b a d c first.rows second.rows first.put second.put;
}

pub AreReadIn-skip : (s : ℕ) (b : Option ℤ) (looks : List (List ℕ)) (xs ys : List ℕ) (c : ℕ) (a d : List NamedColumn)
    → ((c == 13) || (c == 10)) ≡ true → AreReadIn s b looks xs (c ∷ ys) a d → AreReadIn s b looks xs ys a d
AreReadIn-skip s b looks xs ys c a d h so_far = record {
  rows = so_far.rows;
  reads = λ rest more r. so_far.reads rest more (AreRowsIn-skip s c (ys ++ rest) more h r);
  good = so_far.good;
  put = so_far.put;
}

-- one row
pub AreReadIn-row : (s : ℕ) (b : Option ℤ) (looks : List (List ℕ)) (ys zs : List ℕ) (c : ℕ) (a d : List NamedColumn)
    → ((c == 13) || (c == 10)) ≡ false → IsRowIn s b looks (c ∷ ys) zs a d → AreReadIn s b looks (c ∷ ys) zs a d
AreReadIn-row s b looks ys zs c a d h there = record {
  rows = there.row ∷ [];
  reads = λ rest more r. AreRowsIn-row s (c ∷ (ys ++ rest)) (zs ++ rest) there.row more
      (let (t, is, e) = there.ends rest in (t, is, record_same s [] [] c (ys ++ rest) h ∙ e)) r;
  good = λ r. rw (there.good r) refl;
  put = there.put;
}

-- ---- a begun row is taken back

cut_all : (n : ℕ) (columns : List NamedColumn) → HaveRows n columns → map (cut_to n) columns ≡ columns
cut_all n [] h = refl
cut_all n (c ∷ columns) (here, more) =
    let whole : take n c.cells ≡ c.cells = take_all n c.cells (omega (arith, here)) in
    rw (whole, cut_all n columns more) refl

pub IsBegun-none : (n : ℕ) (columns : List NamedColumn) → HaveRows n columns → IsBegun n columns columns
IsBegun-none n columns h = cut_all n columns h

take_front : (n : ℕ) (xs ys : List ℤ) → n ≤ length xs → take n (xs ++ ys) ≡ take n xs
take_front zero xs ys h = refl
take_front (suc n) [] ys h = absurd (omega (arith, h))
take_front (suc n) (x ∷ xs) ys h = ap (λ l. x ∷ l) (take_front n xs ys (omega (arith, h)))

grown_same : (n : ℕ) (d a : Column) (x : ℤ) → length (take n d.cells.items) ≡ n
    → named a ≡ record { name = d.name.items; cells = d.cells.items ++ x ∷ [] }
    → cut_to n (named a) ≡ cut_to n (named d)
grown_same n d a x long grown =
    let enough : n ≤ length d.cells.items = omega (arith, length-take n d.cells.items, long) in
    ap (cut_to n) grown ∙ ap (λ cells. record { name = d.name.items; cells = cells })
    (take_front n d.cells.items (x ∷ []) enough)

lengths : (n : ℕ) (before after : List NamedColumn) → HaveRows n before → IsBegun n before after
    → HaveRows n (map (cut_to n) after)
lengths n before after h begun = rw begun h

begun_set : (n : ℕ) (columns : List Column) (k : ℕ) (c a : Column) (x : ℤ)
    → HaveRows n (map (cut_to n) (map named columns)) → k < length columns → c ≡ get_or columns k c
    → named a ≡ record { name = c.name.items; cells = c.cells.items ++ x ∷ [] }
    → map (cut_to n) (map named (set columns k a)) ≡ map (cut_to n) (map named columns)
begun_set n [] k c a x h within here grown = absurd (omega (arith, within))
begun_set n (d ∷ columns) zero c a x (long, more) within here grown =
    ap (λ l. l ∷ map (cut_to n) (map named columns)) (grown_same n d a x long (rw here at grown))
begun_set n (d ∷ columns) (suc k) c a x (long, more) within here grown =
    ap (λ l. cut_to n (named d) ∷ l) (begun_set n columns k c a x more (omega (arith, within)) here grown)

-- a cell more of the row
pub IsBegun-more : (n : ℕ) (before : List NamedColumn) (columns : List Column) (k : ℕ) (c a : Column) (x : ℤ)
    → HaveRows n before → IsBegun n before (map named columns) → k < length columns
    → c ≡ get_or columns k c → named a ≡ record { name = c.name.items; cells = c.cells.items ++ x ∷ [] }
    → IsBegun n before (map named (set columns k a))
IsBegun-more n before columns k c a x h begun within here grown =
    begun_set n columns k c a x (lengths n before (map named columns) h begun) within here grown ∙ begun

-- columns of which those from k on were begun
HaveRows-drop : (n k : ℕ) (columns : List NamedColumn) → HaveRows n columns → HaveRows n (drop k columns)
HaveRows-drop n zero columns h = h
HaveRows-drop n (suc k) [] h = tt
HaveRows-drop n (suc k) (c ∷ columns) (here, more) = HaveRows-drop n k columns more

pub IsBegun-join : (n k : ℕ) (first now sub : List NamedColumn) → HaveRows n first → IsBegun n first now
    → ((n : ℕ) (first : List NamedColumn) → HaveRows n first → IsBegun n first (drop k now) → IsBegun n first sub)
    → IsBegun n first (take k now ++ sub)
IsBegun-join n k first now sub h begun go =
    let later : map (cut_to n) (drop k now) ≡ drop k first = sym (drop-map (cut_to n) k now) ∙ ap (drop k) begun in
    let front : map (cut_to n) (take k now) ≡ take k first = sym (take-map (cut_to n) k now) ∙ ap (take k) begun in
    map-append (cut_to n) (take k now) sub ∙ ap (λ l. l ++ map (cut_to n) sub) front
    ∙ ap (λ l. take k first ++ l) (go n (drop k first) (HaveRows-drop n k first h) later)
    ∙ take-append-drop k first

-- a column that is as it was
pub set_same : (columns : List Column) (k : ℕ) (c a : Column) → k < length columns → c ≡ get_or columns k c
    → named a ≡ named c → map named (set columns k a) ≡ map named columns
set_same [] k c a within here same = absurd (omega (arith, within))
set_same (d ∷ columns) zero c a within here same = ap (λ l. l ∷ map named columns) (same ∙ ap named here)
set_same (d ∷ columns) (suc k) c a within here same =
    ap (λ l. named d ∷ l) (set_same columns k c a (omega (arith, within)) here same)

pub HaveRows-row : (n : ℕ) (columns : List NamedColumn) (row : List (List ℕ)) → HaveRows n columns
    → HaveRows (n + 1) (with_row columns row)
HaveRows-row n [] row h = tt
HaveRows-row n (c ∷ columns) row (here, more) =
    (omega (arith, here, length-append c.cells (first_number row ∷ [])), HaveRows-row n columns (drop 1 row) more)

-- one column more is cut
pub cut_next : (n : ℕ) (columns initial : List Column) (i : ℕ) (c a : Column) → i < length columns → i < length initial
    → c ≡ get_or columns i c → named a ≡ cut_to n (named c)
    → map named (take i columns) ≡ map (cut_to n) (map named (take i initial)) → drop i columns ≡ drop i initial
    → (map named (take (i + 1) (set columns i a)) ≡ map (cut_to n) (map named (take (i + 1) initial)))
    × (drop (i + 1) (set columns i a) ≡ drop (i + 1) initial)
cut_next n columns initial i c a h k here cut front rest =
    let left = drop_more columns i c h in
    let right = drop_more initial i c k in
    let both = sym left ∙ rest ∙ right in
    let one : get_or columns i c ≡ get_or initial i c = cc both in
    let more : drop (i + 1) columns ≡ drop (i + 1) initial = cc both in
    let grown : map named (take (i + 1) (set columns i a)) ≡ map named (take i columns) ++ named a ∷ [] =
    ap (map named) (take_more_set columns i a h) ∙ map_push named (take i columns) a in
    let wanted : map (cut_to n) (map named (take (i + 1) initial))
    ≡ map (cut_to n) (map named (take i initial)) ++ cut_to n (named (get_or initial i c)) ∷ [] =
    ap (λ l. map (cut_to n) (map named l)) (take_more initial i c k)
    ∙ ap (map (cut_to n)) (map_push named (take i initial) (get_or initial i c))
    ∙ map_push (cut_to n) (map named (take i initial)) (named (get_or initial i c)) in
    let same : named a ≡ cut_to n (named (get_or initial i c)) = cut ∙ ap (λ d. cut_to n (named d)) (here ∙ one) in (
      grown ∙ ap (λ l. l ++ named a ∷ []) front ∙ ap (λ d. map (cut_to n) (map named (take i initial)) ++ d ∷ []) same
          ∙ sym wanted,
      drop-set-lt (i + 1) columns i a (omega arith) ∙ more,
    )
