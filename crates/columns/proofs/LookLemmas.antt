-- The columns in memory that the cell of a row is put under.
use Rattle.std.proofs.Common.{◌≡◌, ◌<◌, ◌≤◌, ◌+◌, ◌-◌, ◌++◌, ◌∙◌, [], ℕ, List, Option, Some, None, IfNone, sym, ap}
use Rattle.std.proofs.Common.{arith, length, map, take, drop, get_or}
use Rattle.std.proofs.lemmas.List.{append-nil, drop-map, drop_all, get_or-map, length-drop, length-map, map-append}
use Rattle.std.proofs.lemmas.List.{take-map, take_all}
use borrow.Rule.Slice.PartMut.{put_mid}
use Rattle.columns.specs.declared.layout.Look.{Look}
use Rattle.columns.specs.Layouts.{places_in}
use Rattle.columns.specs.TextRows.{look_count}
use Rattle.columns.proofs.KeptLemmas.{look_count-le, look_room}
use Rattle.tables.specs.declared.table.Column.{Column}
use Rattle.tables.specs.TableOfColumns.{named}

-- the columns from a place on
pub named_tail : (a : ℕ) (xs : List Column) → map named (take (length xs - a) (drop a xs)) ≡ drop a (map named xs)
named_tail a xs = ap (map named) (take_all (length xs - a) (drop a xs) (omega (arith, length-drop a xs)))
    ∙ sym (drop-map named a xs)

pub named_put : (a : ℕ) (xs ys : List Column) → a ≤ length xs
    → map named (put_mid a (length xs - a) xs ys) ≡ take a (map named xs) ++ map named ys
named_put a xs ys h =
    let none : drop (length xs - a) (drop a xs) ≡ [] =
    drop_all (length xs - a) (drop a xs) (omega (arith, length-drop a xs)) in
    let all : put_mid a (length xs - a) xs ys ≡ take a xs ++ ys =
    ap (λ l. take a xs ++ (ys ++ l)) none ∙ ap (λ l. take a xs ++ l) (append-nil ys) in
    ap (map named) all ∙ map-append named (take a xs) ys ∙ ap (λ l. l ++ map named ys) (sym (take-map named a xs))

-- the look at a column
pub look_is : (items : List Look) (i : ℕ) (look : Look) → i < length items → look ≡ get_or items i look
    → get_or (map places_in items) i [] ≡ places_in look
look_is items i look h is = get_or-map places_in items i look [] h ∙ ap places_in (sym is)

pub column_room : (items : List Look) (i column width : ℕ) → column ≡ look_count (take i (map places_in items))
    → look_count (map places_in items) ≡ width → column ≤ width
column_room items i column width which all = omega (arith, which, all, look_count-le (map places_in items) i)

pub cell_room : (items : List Look) (i column width : ℕ) (look : Look)
    → column ≡ look_count (take i (map places_in items)) → look_count (map places_in items) ≡ width → i < length items
    → look ≡ get_or items i look → column + length (places_in look) ≤ width
cell_room items i column width look which all h is =
    omega (
      arith,
      which,
      all,
      look_room (map places_in items) i (places_in look)
          (omega (arith, h, length-map items places_in)) (look_is items i look h is),
    )

pub tail_room : (columns : List Column) (column k : ℕ) → column + k ≤ length columns
    → k ≤ length (take (length columns - column) (drop column columns))
tail_room columns column k h =
    let all = take_all (length columns - column) (drop column columns) (omega (arith, length-drop column columns)) in
    omega (arith, h, ap length all, length-drop column columns)

pub if_none : {X P : Type 0} (o : Option X) → P → IfNone o P
if_none None p = p
if_none (Some x) p = tt
