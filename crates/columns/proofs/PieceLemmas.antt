-- Pieces of a text, put under one another.
use Rattle.std.proofs.Common.{◌≡◌, ◌<◌, ◌≤◌, ◌+◌, ◌++◌, ◌∷◌, ◌∙◌, [], ℕ, ℤ, zero, suc, true, List, All, refl, sym, ap}
use Rattle.std.proofs.Common.{inl, inr, arith, append_assoc, length, map, take, drop, get_or, set}
use Rattle.std.proofs.lemmas.Bool.{cases_Bool}
use Rattle.std.proofs.lemmas.List.{append-nil, ext_get_or, get_or-map, length-map, map_push, take_more_set}
use Rattle.std.proofs.lemmas.List.Folds.{list_all_at}
use Rattle.std.proofs.lemmas.List.Sums.{fold_more}
use Rattle.std.specs.List.{list_all}
use Rattle.tables.specs.declared.table.Column.{Column}
use Rattle.columns.specs.declared.pieces.TextPiece.{TextPiece}
use Rattle.columns.specs.Pieces.{ArePut, IsPiece, IsPieceThere, append_columns, append_pieces, blanks, cells_at}
use Rattle.columns.specs.Pieces.{with_pieces}
use Rattle.columns.specs.declared.layout.Layout.{Layout}
use Rattle.columns.specs.Fronts.{kept_rows}
use Rattle.columns.specs.Layouts.{AreReadBy}
use Rattle.columns.specs.TextRows.{HaveRows}
use Rattle.columns.proofs.TextRowLemmas.{AreReadIn-join}
use Rattle.columns.specs.Table.{first_number}
use Rattle.tables.specs.Table.{NamedColumn}
use Rattle.columns.specs.TableOfColumns.{with_row, with_rows}
use Rattle.tables.specs.TableOfColumns.{named}

blanks_more : (n : ℕ) → blanks (n + 1) ≡ blanks n ++ record { name = []; cells = [] } ∷ []
blanks_more zero = refl
blanks_more (suc n) =
    let e : suc n + 1 ≡ suc (n + 1) = omega arith in
    rw e (ap (λ l. record { name = []; cells = [] } ∷ l) (blanks_more n))

length-blanks : (n : ℕ) → length (blanks n) ≡ n
length-blanks zero = refl
length-blanks (suc n) = ap suc (length-blanks n)

length-with_row : (columns : List NamedColumn) (row : List (List ℕ)) → length (with_row columns row) ≡ length columns
length-with_row [] row = refl
length-with_row (c ∷ columns) row = ap suc (length-with_row columns (drop 1 row))

append_blanks : (columns : List NamedColumn) → append_columns columns (blanks (length columns)) ≡ columns
append_blanks [] = refl
append_blanks (c ∷ columns) = rw (append-nil c.cells, append_blanks columns) refl

-- a row under the piece is a row under the columns
append_row : (columns piece : List NamedColumn) (row : List (List ℕ)) → length piece ≡ length columns
    → append_columns columns (with_row piece row) ≡ with_row (append_columns columns piece) row
append_row [] piece row h = refl
append_row (c ∷ columns) [] row h = cc h
append_row (c ∷ columns) (p ∷ piece) row h =
    let shorter : length piece ≡ length columns = omega (arith, h) in
    rw (append_row columns piece (drop 1 row) shorter, append_assoc c.cells p.cells (first_number row ∷ [])) refl

append_rows : (columns piece : List NamedColumn) (rows : List (List (List ℕ))) → length piece ≡ length columns
    → append_columns columns (with_rows piece rows) ≡ with_rows (append_columns columns piece) rows
append_rows columns piece [] h = refl
append_rows columns piece (row ∷ rows) h =
    append_rows columns (with_row piece row) rows (length-with_row piece row ∙ h)
    ∙ ap (λ k. with_rows k rows) (append_row columns piece row h)

-- what was read under blank columns can be put under any
AreReadBy-append : (l : Layout) (xs ys : List ℕ) (columns piece : List NamedColumn) (width : ℕ) → width ≡ length columns
    → AreReadBy l xs ys (blanks width) piece
    → AreReadBy l xs ys columns (append_columns columns piece)
AreReadBy-append l xs ys columns piece width is read =
    let wide : length (blanks width) ≡ length columns = length-blanks width ∙ is in
    let none : append_columns columns (blanks width) ≡ columns =
    ap (λ n. append_columns columns (blanks n)) is ∙ append_blanks columns in
    record {
      rows = read.rows;
      reads = read.reads;
      good = read.good;
      put = ap (append_columns columns) read.put ∙ append_rows columns (blanks width) (kept_rows l read.rows) wide
          ∙ ap (λ k. with_rows k (kept_rows l read.rows)) none;
    }

-- the cells in one place, after a piece and after all
length-append_columns : (columns piece : List NamedColumn) → length (append_columns columns piece) ≡ length columns
length-append_columns [] piece = refl
length-append_columns (c ∷ columns) [] = refl
length-append_columns (c ∷ columns) (p ∷ piece) = ap suc (length-append_columns columns piece)

length-append_pieces : (pieces : List TextPiece) (columns : List NamedColumn)
    → length (append_pieces columns pieces) ≡ length columns
length-append_pieces [] columns = refl
length-append_pieces (p ∷ pieces) columns =
    length-append_pieces pieces (append_columns columns (map named p.columns.items))
    ∙ length-append_columns columns (map named p.columns.items)

get_or-append_columns : (columns piece : List NamedColumn) (i : ℕ) (d : NamedColumn) → i < length columns
    → get_or (append_columns columns piece) i d
    ≡ record { name = (get_or columns i d).name; cells = (get_or columns i d).cells ++ cells_at piece i }
get_or-append_columns [] piece i d h = absurd (omega arith)
get_or-append_columns (c ∷ columns) [] i d h = rw (append-nil (get_or (c ∷ columns) i d).cells) refl
get_or-append_columns (c ∷ columns) (p ∷ piece) zero d h = refl
get_or-append_columns (c ∷ columns) (p ∷ piece) (suc i) d h = get_or-append_columns columns piece i d (omega arith)

get_or-append_pieces : (pieces : List TextPiece) (columns : List NamedColumn) (i : ℕ) (d : NamedColumn)
    → i < length columns
    → get_or (append_pieces columns pieces) i d ≡ with_pieces (get_or columns i d) pieces i
get_or-append_pieces [] columns i d h = refl
get_or-append_pieces (p ∷ pieces) columns i d h =
    let more = append_columns columns (map named p.columns.items) in
    let within : i < length more = omega (arith, length-append_columns columns (map named p.columns.items)) in
    get_or-append_pieces pieces more i d within
    ∙ ap (λ c. with_pieces c pieces i) (get_or-append_columns columns (map named p.columns.items) i d h)

whole_at : (columns : List Column) (i : ℕ) (c : Column) → i < length columns → list_all (λ k. k.is_whole) columns ≡ true
    → (get_or columns i c).is_whole ≡ true
whole_at columns i c h whole = elim (cases_Bool (get_or columns i c).is_whole) [
  | inl is ↦ is
  | inr other ↦ cc (sym whole ∙ list_all_at (λ k. k.is_whole) columns i c h other)
]

put_at : (pieces : List TextPiece) (before after : List Column) (d : NamedColumn) → length after ≡ length before
    → ArePut pieces 0 before after → list_all (λ k. k.is_whole) after ≡ true
    → (i : ℕ) → i < length (map named after)
    → get_or (map named after) i d ≡ get_or (append_pieces (map named before) pieces) i d
put_at pieces before [] d same put whole i h = absurd (omega arith)
put_at pieces before (a ∷ after) d same put whole i h =
    let in_after : i < length (a ∷ after) = rw length-map at h in
    let in_before : i < length before = omega (arith, same, in_after) in
    let in_named : i < length (map named before) = omega (arith, length-map before named, in_before) in
    let at_first : 0 + i ≡ i = omega arith in
    let placed = put i a in_before in
    let there = (rw at_first at placed) (whole_at (a ∷ after) i a in_after whole) in
    get_or-map named (a ∷ after) i a d in_after ∙ there
    ∙ ap (λ c. with_pieces c pieces i) (sym (get_or-map named before i a d in_before))
    ∙ sym (get_or-append_pieces pieces (map named before) i d in_named)

-- columns that are whole have the cells of all pieces
pub put_all : (pieces : List TextPiece) (before after : List Column) → length after ≡ length before
    → ArePut pieces 0 before after → list_all (λ k. k.is_whole) after ≡ true
    → map named after ≡ append_pieces (map named before) pieces
put_all pieces before after same put whole =
    let d : NamedColumn = record { name = []; cells = [] } in
    let long : length (map named after) ≡ length (append_pieces (map named before) pieces) =
    length-map after named ∙ same ∙ sym (length-map before named)
    ∙ sym (length-append_pieces pieces (map named before)) in
    ext_get_or d (map named after) (append_pieces (map named before) pieces) long
    (put_at pieces before after d same put whole)

-- the cells of the column in a place
pub cells_there : (columns : List Column) (i : ℕ) (c : Column) → i < length columns → c ≡ get_or columns i c
    → cells_at (map named columns) i ≡ c.cells.items
cells_there [] i c h here = absurd (omega arith)
cells_there (k ∷ columns) zero c h here = ap (λ x. x.cells.items) (sym here)
cells_there (k ∷ columns) (suc i) c h here = cells_there columns i c (omega arith) here

-- one piece more
with_pieces_more : (c : NamedColumn) (pieces : List TextPiece) (i place : ℕ) (p : TextPiece) → i < length pieces
    → with_pieces c (take (i + 1) pieces) place
    ≡ record {
      name = c.name;
      cells = (with_pieces c (take i pieces) place).cells
          ++ cells_at (map named (get_or pieces i p).columns.items) place;
    }
with_pieces_more c pieces i place p h =
    ap (λ cells. record { name = c.name; cells = cells })
    (fold_more (λ k q. k ++ cells_at (map named q.columns.items) place) c.cells pieces i p h)

append_pieces_more : (columns : List NamedColumn) (pieces : List TextPiece) (i : ℕ) (p : TextPiece) → i < length pieces
    → append_pieces columns (take (i + 1) pieces)
    ≡ append_columns (append_pieces columns (take i pieces)) (map named (get_or pieces i p).columns.items)
append_pieces_more columns pieces i p h =
    fold_more (λ k q. append_columns k (map named q.columns.items)) columns pieces i p h

pub put_more : (before : NamedColumn) (pieces : List TextPiece) (i place : ℕ) (p : TextPiece) (k : NamedColumn)
    (cells more : List ℤ) → i < length pieces → p ≡ get_or pieces i p
    → k ≡ with_pieces before (take i pieces) place → cells_at (map named p.columns.items) place ≡ more
    → cells ≡ k.cells ++ more
    → record { name = k.name; cells = cells } ≡ with_pieces before (take (i + 1) pieces) place
put_more before pieces i place p k cells more h here so_far there grown =
    let cells_of : TextPiece → List ℤ = λ q. cells_at (map named q.columns.items) place in
    let name : k.name ≡ before.name = ap (λ q. q.name) so_far in
    let all : cells ≡ (with_pieces before (take i pieces) place).cells ++ cells_of (get_or pieces i p) =
    grown ∙ ap (λ m. k.cells ++ m) (sym there ∙ ap cells_of here)
    ∙ ap (λ q. q.cells ++ cells_of (get_or pieces i p)) so_far in
    rw (name, all) (sym (with_pieces_more before pieces i place p h))

-- the next piece is read, and starts where the one before it ends
pub put_next : (l : Layout) (text : List ℕ) (columns : List NamedColumn) (at width : ℕ) (pieces : List TextPiece)
    (i : ℕ) (p : TextPiece) → width ≡ length columns
    → All (IsPieceThere l text width) pieces → i < length pieces → p ≡ get_or pieces i p → p.is_read ≡ true
    → p.from ≡ at
    → AreReadBy l text (drop at text) columns (append_pieces columns (take i pieces))
    → (p.to ≤ length text) × AreReadBy l text (drop p.to text) columns
    (append_pieces columns (take (i + 1) pieces))
put_next l text columns at width pieces i p is all h here is_read starts so_far =
    let one : IsPieceThere l text width p = rw (sym here) at (all i p h) in
    let there : IsPiece l text width p = one is_read in
    let before = append_pieces columns (take i pieces) in
    let wide : length before ≡ length columns = length-append_pieces (take i pieces) columns in
    let under : AreReadBy l (drop p.from text) (drop p.to text) before
    (append_columns before (map named p.columns.items)) =
    AreReadBy-append l _ _ before (map named p.columns.items) width (is ∙ sym wide) there.read in
    let whole : append_pieces columns (take (i + 1) pieces) ≡ append_columns before (map named p.columns.items) =
    append_pieces_more columns pieces i p h ∙ ap (λ q. append_columns before (map named q.columns.items)) (sym here) in
    let on : AreReadBy l (drop at text) (drop p.to text) before (append_columns before (map named p.columns.items)) =
    rw starts at under in
    (there.ends, rw whole (AreReadIn-join _ _ _ _ _ _ _ _ _ so_far on))

-- one column more is empty
pub emptied_more : (columns : List Column) (i : ℕ) (a : Column) → i < length columns → a.name.items ≡ []
    → a.cells.items ≡ [] → map named (take i columns) ≡ blanks i
    → map named (take (i + 1) (set columns i a)) ≡ blanks (i + 1)
emptied_more columns i a h nameless bare so_far =
    let empty : named a ≡ record { name = []; cells = [] } = rw (nameless, bare) refl in
    rw (take_more_set columns i a h, map_push named (take i columns) a, so_far, empty) (sym (blanks_more i))

-- blank columns have no cells
pub HaveRows-blanks : (n : ℕ) → HaveRows 0 (blanks n)
HaveRows-blanks zero = tt
HaveRows-blanks (suc n) = (refl, HaveRows-blanks n)
