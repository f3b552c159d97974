use Rattle.std.proofs.Common.{◌≡◌, ◌<◌, ◌≤◌, ◌+◌, ◌∙◌, [], ap, arith, drop, false, get_or, length, map, rules, sym}
use Rattle.std.proofs.lemmas.List.{get_or-map, length-map}
use Rattle.csv.specs.Records.{fields_of}
use Rattle.tables.specs.TableOfColumns.{named}
use Rattle.columns.specs.Layouts.{places_in}
use Rattle.columns.specs.TableForms.{filled, is_good}
use Rattle.columns.specs.TextRows.{IsCellPut, look_count}
use Rattle.columns.proofs.KeptLemmas.{RowSoFar-bad, RowSoFar-cell}
use Rattle.columns.proofs.LookLemmas.{cell_room, column_room, look_is, named_put, named_tail, tail_room}
use Rattle.columns.proofs.rows.read_row.Goals as goal

pub offset_bounds-columns-column : goal.offset_bounds-columns-column
offset_bounds-columns-column c =
    let items = c.as_slice-looks.result.now in
    let looks = map places_in items in
    let place = c.loop-place.place in
    let column = c.loop-place.column in
    let columns = c.loop-place.columns in
    let whole : items ≡ c.args.layout.now.looks.items = search rules in
    let all : look_count looks ≡ length columns =
    ap (λ l. look_count (map places_in l)) whole ∙ c.requires ∙ sym c.loop-place.auto.columns in
    let within : column ≤ length columns =
    column_room items place column (length columns) c.loop-place.invariant.which all in
    search (rules, within)

pub slice_bounds-put_cell-count : goal.slice_bounds-put_cell-count
slice_bounds-put_cell-count c =
    let items = c.as_slice-looks.result.now in
    let looks = map places_in items in
    let place = c.loop-place.place in
    let column = c.loop-place.column in
    let columns = c.loop-place.columns in
    let whole : items ≡ c.args.layout.now.looks.items = search rules in
    let all : look_count looks ≡ length columns =
    ap (λ l. look_count (map places_in l)) whole ∙ c.requires ∙ sym c.loop-place.auto.columns in
    let within : column ≤ length columns =
    column_room items place column (length columns) c.loop-place.invariant.which all in
    within

pub slice_bounds-put_cell-start : goal.slice_bounds-put_cell-start
slice_bounds-put_cell-start c =
    let items = c.as_slice-looks.result.now in
    let looks = map places_in items in
    let place = c.loop-place.place in
    let column = c.loop-place.column in
    let columns = c.loop-place.columns in
    let whole : items ≡ c.args.layout.now.looks.items = search rules in
    let all : look_count looks ≡ length columns =
    ap (λ l. look_count (map places_in l)) whole ∙ c.requires ∙ sym c.loop-place.auto.columns in
    let within : column ≤ length columns =
    column_room items place column (length columns) c.loop-place.invariant.which all in
    search (rules, within)

pub put_cell-requires : goal.put_cell-requires
put_cell-requires c =
    let items = c.as_slice-looks.result.now in
    let looks = map places_in items in
    let place = c.loop-place.place in
    let column = c.loop-place.column in
    let columns = c.loop-place.columns in
    let whole : items ≡ c.args.layout.now.looks.items = search rules in
    let all : look_count looks ≡ length columns =
    ap (λ l. look_count (map places_in l)) whole ∙ c.requires ∙ sym c.loop-place.auto.columns in
    let look = c.index-looks-place.result in
    let room : place < length items = c.loop-place-test.true in
    rw c.places-places.ensures (tail_room columns column (length (places_in look))
    (cell_room items place column (length columns) look c.loop-place.invariant.which all room
    c.index-looks-place.is))

pub overflow_add-column : goal.overflow_add-column
overflow_add-column c =
    let items = c.as_slice-looks.result.now in
    let looks = map places_in items in
    let place = c.loop-place.place in
    let column = c.loop-place.column in
    let columns = c.loop-place.columns in
    let whole : items ≡ c.args.layout.now.looks.items = search rules in
    let all : look_count looks ≡ length columns =
    ap (λ l. look_count (map places_in l)) whole ∙ c.requires ∙ sym c.loop-place.auto.columns in
    let look = c.index-looks-place.result in
    let room : place < length items = c.loop-place-test.true in
    let fits : column + length (places_in look) ≤ length columns =
    cell_room items place column (length columns) look c.loop-place.invariant.which all room
    c.index-looks-place.is in
    let more : column + length c.places-places.result.now ≤ length columns = rw c.places-places.ensures fits in
    search (rules, more)

pub returns-then-not-branch-clause-refused : goal.returns-then-not-branch-clause-refused
returns-then-not-branch-clause-refused c no_want =
    let items = c.as_slice-looks.result.now in
    let looks = map places_in items in
    let place = c.loop-place.place in
    let column = c.loop-place.column in
    let columns = c.loop-place.columns in
    let look = c.index-looks-place.result in
    let room : place < length items = c.loop-place-test.true in
    let b = c.args.layout.now.blank in
    let fields = fields_of c.args.row.now in
    let cells = map (filled b) fields in
    let m = places_in look in
    let long : length fields ≡ length items = search rules in
    let wide : length cells ≡ length looks = length-map fields (filled b) ∙ long ∙ sym (length-map items places_in) in
    let in_looks : place < length looks = omega (arith, room, length-map items places_in) in
    let is : get_or looks place [] ≡ m = look_is items place look room c.index-looks-place.is in
    let here : get_or cells place [] ≡ filled b (get_or fields place []) =
    get_or-map (filled b) fields place [] [] (omega (arith, room, long)) in
    let whole : items ≡ c.args.layout.now.looks.items = search rules in
    let bad : is_good m (filled b (get_or fields place [])) ≡ false =
    rw (c.places-places.ensures, c.field_in-cell.ensures) at c.in_ok-put_cell.ensures.bad c.if-not-branch.true in
    rw (sym whole) (RowSoFar-bad looks cells c.args.number place column _ _ m wide in_looks is (rw here bad)
    c.loop-place.invariant)

pub loop-place-preserved : goal.loop-place-preserved
loop-place-preserved c =
    let items = c.as_slice-looks.result.now in
    let looks = map places_in items in
    let place = c.loop-place.place in
    let column = c.loop-place.column in
    let columns = c.loop-place.columns in
    let whole : items ≡ c.args.layout.now.looks.items = search rules in
    let all : look_count looks ≡ length columns =
    ap (λ l. look_count (map places_in l)) whole ∙ c.requires ∙ sym c.loop-place.auto.columns in
    let within : column ≤ length columns =
    column_room items place column (length columns) c.loop-place.invariant.which all in
    let look = c.index-looks-place.result in
    let room : place < length items = c.loop-place-test.true in
    let b = c.args.layout.now.blank in
    let fields = fields_of c.args.row.now in
    let cells = map (filled b) fields in
    let m = places_in look in
    let long : length fields ≡ length items = search rules in
    let wide : length cells ≡ length looks = length-map fields (filled b) ∙ long ∙ sym (length-map items places_in) in
    let in_looks : place < length looks = omega (arith, room, length-map items places_in) in
    let is : get_or looks place [] ≡ m = look_is items place look room c.index-looks-place.is in
    let here : get_or cells place [] ≡ filled b (get_or fields place []) =
    get_or-map (filled b) fields place [] [] (omega (arith, room, long)) in
    let new = c.put_cell.new.columns in
    let put : IsCellPut m (filled b (get_or fields place [])) (drop column (map named columns)) (map named new) =
    rw (c.places-places.ensures, c.field_in-cell.ensures, named_tail column columns) at c.in_ok-put_cell.ensures.put
    c.if-not-branch.false in
    let in_columns : column ≤ length (map named columns) = omega (arith, within, length-map columns named) in
    rw (named_put column columns new within, c.places-places.ensures)
    (RowSoFar-cell looks cells c.args.number place column (map named columns) _ (map named new) m wide in_looks is
    in_columns
    (rw here put) c.loop-place.invariant)
