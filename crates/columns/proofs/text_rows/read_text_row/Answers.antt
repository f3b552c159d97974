use Rattle.std.proofs.Common.{◌≡◌, ◌<◌, ◌≤◌, ◌+◌, ◌-◌, ◌∙◌, [], ℕ, List, ap, arith, drop, get_or, length, map, refl}
use Rattle.std.proofs.Common.{rules, sym}
use Rattle.std.proofs.lemmas.List.{length-map}
use Rattle.tables.specs.Table.{NamedColumn}
use Rattle.tables.specs.TableOfColumns.{named}
use Rattle.columns.specs.Layouts.{places_in}
use Rattle.columns.specs.TextRows.{HaveRows, IsBegun, look_count}
use Rattle.columns.proofs.KeptLemmas.{look_count_up}
use Rattle.columns.proofs.LookLemmas.{cell_room, column_room, if_none, look_is, named_put, named_tail, tail_room}
use Rattle.columns.proofs.NumberLemmas.{both_some}
use Rattle.columns.proofs.TextRowLemmas.{AreCellsIn-cell, AreCellsIn-none, IsBegun-join, IsBegun-none, IsRowIn-cell}
use Rattle.columns.proofs.text_rows.read_text_row.Goals as goal

pub loop-place-init : goal.loop-place-init
loop-place-init c = (
  omega arith,
  omega (arith, c.requires.within),
  refl,
  AreCellsIn-none _ _ _ _ _,
  λ n h. IsBegun-none n _ h,
)

pub offset_bounds-columns-column : goal.offset_bounds-columns-column
offset_bounds-columns-column c =
    let items = c.as_slice-looks.result.now in
    let looks = map places_in items in
    let place = c.loop-place.place in
    let column = c.loop-place.column in
    let columns = c.loop-place.columns in
    let (low, high, which, so_far, begun) = c.loop-place.invariant in
    let whole : items ≡ c.args.layout.now.looks.items = search rules in
    let all : look_count looks ≡ length columns =
    ap (λ l. look_count (map places_in l)) whole ∙ c.requires.fits.wide ∙ sym c.loop-place.auto.columns in
    let within : column ≤ length columns = column_room items place column (length columns) which all in
    search (rules, within)

pub slice_bounds-put_cell_at-count : goal.slice_bounds-put_cell_at-count
slice_bounds-put_cell_at-count c =
    let items = c.as_slice-looks.result.now in
    let looks = map places_in items in
    let place = c.loop-place.place in
    let column = c.loop-place.column in
    let columns = c.loop-place.columns in
    let (low, high, which, so_far, begun) = c.loop-place.invariant in
    let whole : items ≡ c.args.layout.now.looks.items = search rules in
    let all : look_count looks ≡ length columns =
    ap (λ l. look_count (map places_in l)) whole ∙ c.requires.fits.wide ∙ sym c.loop-place.auto.columns in
    let within : column ≤ length columns = column_room items place column (length columns) which all in
    within

pub slice_bounds-put_cell_at-start : goal.slice_bounds-put_cell_at-start
slice_bounds-put_cell_at-start c =
    let items = c.as_slice-looks.result.now in
    let looks = map places_in items in
    let place = c.loop-place.place in
    let column = c.loop-place.column in
    let columns = c.loop-place.columns in
    let (low, high, which, so_far, begun) = c.loop-place.invariant in
    let whole : items ≡ c.args.layout.now.looks.items = search rules in
    let all : look_count looks ≡ length columns =
    ap (λ l. look_count (map places_in l)) whole ∙ c.requires.fits.wide ∙ sym c.loop-place.auto.columns in
    let within : column ≤ length columns = column_room items place column (length columns) which all in
    search (rules, within)

pub offset_bounds-columns-column-2 : goal.offset_bounds-columns-column-2
offset_bounds-columns-column-2 c =
    let items = c.as_slice-looks.result.now in
    let looks = map places_in items in
    let place = c.loop-place.place in
    let column = c.loop-place.column in
    let columns = c.loop-place.columns in
    let (low, high, which, so_far, begun) = c.loop-place.invariant in
    let whole : items ≡ c.args.layout.now.looks.items = search rules in
    let all : look_count looks ≡ length columns =
    ap (λ l. look_count (map places_in l)) whole ∙ c.requires.fits.wide ∙ sym c.loop-place.auto.columns in
    let within : column ≤ length columns = column_room items place column (length columns) which all in
    search (rules, within)

pub slice_bounds-put_cell_at-count-2 : goal.slice_bounds-put_cell_at-count-2
slice_bounds-put_cell_at-count-2 c =
    let items = c.as_slice-looks.result.now in
    let looks = map places_in items in
    let place = c.loop-place.place in
    let column = c.loop-place.column in
    let columns = c.loop-place.columns in
    let (low, high, which, so_far, begun) = c.loop-place.invariant in
    let whole : items ≡ c.args.layout.now.looks.items = search rules in
    let all : look_count looks ≡ length columns =
    ap (λ l. look_count (map places_in l)) whole ∙ c.requires.fits.wide ∙ sym c.loop-place.auto.columns in
    let within : column ≤ length columns = column_room items place column (length columns) which all in
    within

pub slice_bounds-put_cell_at-start-2 : goal.slice_bounds-put_cell_at-start-2
slice_bounds-put_cell_at-start-2 c =
    let items = c.as_slice-looks.result.now in
    let looks = map places_in items in
    let place = c.loop-place.place in
    let column = c.loop-place.column in
    let columns = c.loop-place.columns in
    let (low, high, which, so_far, begun) = c.loop-place.invariant in
    let whole : items ≡ c.args.layout.now.looks.items = search rules in
    let all : look_count looks ≡ length columns =
    ap (λ l. look_count (map places_in l)) whole ∙ c.requires.fits.wide ∙ sym c.loop-place.auto.columns in
    let within : column ≤ length columns = column_room items place column (length columns) which all in
    search (rules, within)

pub put_cell_at-requires-clause-room : goal.put_cell_at-requires-clause-room
put_cell_at-requires-clause-room c =
    let items = c.as_slice-looks.result.now in
    let looks = map places_in items in
    let place = c.loop-place.place in
    let column = c.loop-place.column in
    let columns = c.loop-place.columns in
    let (low, high, which, so_far, begun) = c.loop-place.invariant in
    let whole : items ≡ c.args.layout.now.looks.items = search rules in
    let all : look_count looks ≡ length columns =
    ap (λ l. look_count (map places_in l)) whole ∙ c.requires.fits.wide ∙ sym c.loop-place.auto.columns in
    let within : column ≤ length columns = column_room items place column (length columns) which all in
    let look = c.index-looks-place.result in
    let room : place < length items = omega (arith, c.loop-place-test.true) in
    tail_room columns column (length (places_in look))
    (cell_room items place column (length columns) look which all room c.index-looks-place.is)

pub put_cell_at-requires-2-clause-room : goal.put_cell_at-requires-2-clause-room
put_cell_at-requires-2-clause-room c =
    let items = c.as_slice-looks.result.now in
    let looks = map places_in items in
    let place = c.loop-place.place in
    let column = c.loop-place.column in
    let columns = c.loop-place.columns in
    let (low, high, which, so_far, begun) = c.loop-place.invariant in
    let whole : items ≡ c.args.layout.now.looks.items = search rules in
    let all : look_count looks ≡ length columns =
    ap (λ l. look_count (map places_in l)) whole ∙ c.requires.fits.wide ∙ sym c.loop-place.auto.columns in
    let within : column ≤ length columns = column_room items place column (length columns) which all in
    let look = c.index-looks-last.result in
    let long : length items ≡ place + 1 =
    omega (
      arith,
      c.loop-place-test.false,
      c.loop-place.auto.place-end,
      c.requires.fits.some_cell,
      ap length whole,
      length-map c.args.layout.now.looks.items places_in,
    ) in
    let room : place < length items = omega (arith, long) in
    let last : length items - 1 ≡ place = omega (arith, long) in
    let here = rw last at c.index-looks-last.is in
    tail_room columns column (length (places_in look))
    (cell_room items place column (length columns) look which all room here)

pub overflow_add-column : goal.overflow_add-column
overflow_add-column c =
    let items = c.as_slice-looks.result.now in
    let looks = map places_in items in
    let place = c.loop-place.place in
    let column = c.loop-place.column in
    let columns = c.loop-place.columns in
    let (low, high, which, so_far, begun) = c.loop-place.invariant in
    let whole : items ≡ c.args.layout.now.looks.items = search rules in
    let all : look_count looks ≡ length columns =
    ap (λ l. look_count (map places_in l)) whole ∙ c.requires.fits.wide ∙ sym c.loop-place.auto.columns in
    let within : column ≤ length columns = column_room items place column (length columns) which all in
    let look = c.index-looks-place.result in
    let room : place < length items = omega (arith, c.loop-place-test.true) in
    let fits : column + length (places_in look) ≤ length columns =
    cell_room items place column (length columns) look which all room c.index-looks-place.is in
    let more : column + length c.places.result.now ≤ length columns = rw c.places.ensures fits in
    search (rules, more)

pub returns-in_err-next-clause-begun : goal.returns-in_err-next-clause-begun
returns-in_err-next-clause-begun c =
    let items = c.as_slice-looks.result.now in
    let looks = map places_in items in
    let place = c.loop-place.place in
    let column = c.loop-place.column in
    let columns = c.loop-place.columns in
    let (low, high, which, so_far, begun) = c.loop-place.invariant in
    let whole : items ≡ c.args.layout.now.looks.items = search rules in
    let all : look_count looks ≡ length columns =
    ap (λ l. look_count (map places_in l)) whole ∙ c.requires.fits.wide ∙ sym c.loop-place.auto.columns in
    let within : column ≤ length columns = column_room items place column (length columns) which all in
    let new = c.put_cell_at.new.columns in
    let go : (n : ℕ) (first : List NamedColumn) → HaveRows n first → IsBegun n first (drop column (map named columns))
    → IsBegun n first (map named new) =
    rw (named_tail column columns) at c.in_err-next.ensures.begun in
    if_none c.from_residual.result (λ n h. rw (named_put column columns new within)
    (IsBegun-join n column _ (map named columns) (map named new) h (begun n h) go))

pub loop-place-preserved : goal.loop-place-preserved
loop-place-preserved c =
    let items = c.as_slice-looks.result.now in
    let looks = map places_in items in
    let place = c.loop-place.place in
    let column = c.loop-place.column in
    let columns = c.loop-place.columns in
    let (low, high, which, so_far, begun) = c.loop-place.invariant in
    let whole : items ≡ c.args.layout.now.looks.items = search rules in
    let all : look_count looks ≡ length columns =
    ap (λ l. look_count (map places_in l)) whole ∙ c.requires.fits.wide ∙ sym c.loop-place.auto.columns in
    let within : column ≤ length columns = column_room items place column (length columns) which all in
    let look = c.index-looks-place.result in
    let room : place < length items = omega (arith, c.loop-place-test.true) in
    let new = c.put_cell_at.new.columns in
    let next = c.in_ok-next.ensures in
    let m = places_in look in
    let in_looks : place < length looks = omega (arith, room, length-map items places_in) in
    let is : get_or looks place [] ≡ m = look_is items place look room c.index-looks-place.is in
    let go : (n : ℕ) (first : List NamedColumn) → HaveRows n first → IsBegun n first (drop column (map named columns))
    → IsBegun n first (map named new) =
    rw (named_tail column columns) at next.begun in
    let there = rw (named_tail column columns) at next.read in
    let in_columns : column ≤ length (map named columns) = omega (arith, within, length-map columns named) in (
      omega (arith, low, next.on.0),
      next.on.1,
      omega (arith, which, ap length c.places.ensures, look_count_up looks place m in_looks is),
      rw (named_put column columns new within)
          (AreCellsIn-cell _ _ looks _ _ _ (map named columns) _ (map named new) place column m in_looks is which
          in_columns so_far there),
      λ n h. rw (named_put column columns new within)
          (IsBegun-join n column _ (map named columns) (map named new) h (begun n h) go),
    )

pub returns-clause-read : goal.returns-clause-read
returns-clause-read c =
    let items = c.as_slice-looks.result.now in
    let looks = map places_in items in
    let place = c.loop-place.place in
    let column = c.loop-place.column in
    let columns = c.loop-place.columns in
    let (low, high, which, so_far, begun) = c.loop-place.invariant in
    let whole : items ≡ c.args.layout.now.looks.items = search rules in
    let all : look_count looks ≡ length columns =
    ap (λ l. look_count (map places_in l)) whole ∙ c.requires.fits.wide ∙ sym c.loop-place.auto.columns in
    let within : column ≤ length columns = column_room items place column (length columns) which all in
    let look = c.index-looks-last.result in
    let long : length items ≡ place + 1 =
    omega (
      arith,
      c.loop-place-test.false,
      c.loop-place.auto.place-end,
      c.requires.fits.some_cell,
      ap length whole,
      length-map c.args.layout.now.looks.items places_in,
    ) in
    let room : place < length items = omega (arith, long) in
    let last : length items - 1 ≡ place = omega (arith, long) in
    let here = rw last at c.index-looks-last.is in
    let new = c.put_cell_at-2.new.columns in
    let m = places_in look in
    let is : get_or looks place [] ≡ m = look_is items place look room here in
    let count : length looks ≡ place + 1 = length-map items places_in ∙ long in
    let width : look_count looks ≡ length (map named columns) = all ∙ sym (length-map columns named) in
    let same : length (map named new) ≡ length (drop column (map named columns)) =
    length-map new named ∙ c.put_cell_at-2.auto.columns ∙ sym (length-map _ named)
    ∙ ap length (named_tail column columns) in
    let read = rw (named_tail column columns) at c.put_cell_at-2.ensures.read in
    both_some _ _ _ c.put_cell_at-2.result read read (λ next there same_there.
    rw (sym whole, named_put column columns new within)
    (IsRowIn-cell _ _ looks _ _ _ (map named columns) _ (map named new) place column m count is which width same
    so_far there))

pub returns-clause-begun : goal.returns-clause-begun
returns-clause-begun c =
    let items = c.as_slice-looks.result.now in
    let looks = map places_in items in
    let place = c.loop-place.place in
    let column = c.loop-place.column in
    let columns = c.loop-place.columns in
    let (low, high, which, so_far, begun) = c.loop-place.invariant in
    let whole : items ≡ c.args.layout.now.looks.items = search rules in
    let all : look_count looks ≡ length columns =
    ap (λ l. look_count (map places_in l)) whole ∙ c.requires.fits.wide ∙ sym c.loop-place.auto.columns in
    let within : column ≤ length columns = column_room items place column (length columns) which all in
    let new = c.put_cell_at-2.new.columns in
    let go : (n : ℕ) (first : List NamedColumn) → HaveRows n first → IsBegun n first (drop column (map named columns))
    → IsBegun n first (map named new) =
    rw (named_tail column columns) at c.put_cell_at-2.ensures.begun in
    if_none c.put_cell_at-2.result (λ n h. rw (named_put column columns new within)
    (IsBegun-join n column _ (map named columns) (map named new) h (begun n h) go))
