use Rattle.std.proofs.Common.{◌≡◌, ◌<◌, ◌∙◌, ◌+◌, ◌++◌, [], ap, arith, get_or, length, map, sym, take}
use Rattle.std.proofs.lemmas.List.{get_or-map, length-map, take-map}
use Rattle.csv.specs.Records.{fields_of}
use Rattle.job_names.specs.ColumnKeys.{key_of}
use Rattle.columns.specs.Layouts.{places_in}
use Rattle.columns.specs.Table.{columns_under}
use Rattle.columns.specs.TableForms.{kept_names}
use Rattle.tables.specs.TableOfColumns.{named}
use Rattle.columns.proofs.KeptLemmas.{kept_names_up}
use Rattle.columns.proofs.RowLemmas.{columns_under-append}
use Rattle.columns.proofs.rows.columns_named.Goals as goal

pub loop-place-preserved : goal.loop-place-preserved
loop-place-preserved c =
    let fields = fields_of c.args.header.now in
    let items = c.args.looks.now in
    let looks = map places_in items in
    let place = c.loop-place.place in
    let look = c.index-looks-place.result in
    let m = places_in look in
    let name = get_or fields place [] in
    let room : place < length items = c.loop-place-test.true in
    let wide : length fields ≡ length looks = sym (length-map items places_in ∙ c.requires) in
    let is : get_or looks place [] ≡ m =
    get_or-map places_in items place look [] room ∙ ap places_in (sym c.index-looks-place.is) in
    let added : map named c.add_columns.new.columns.items
    ≡ map named c.loop-place.columns.items ++ columns_under (map (key_of name) m) [] =
    rw (c.field_in-name.ensures, c.places.ensures) at c.in_ok-add_columns.ensures in
    let front = kept_names (map places_in (take place items)) (take place fields) in
    let up : front ++ map (key_of name) m
    ≡ kept_names (map places_in (take (place + 1) items)) (take (place + 1) fields) =
    ap (λ l. kept_names l (take place fields) ++ map (key_of name) m) (sym (take-map places_in place items))
    ∙ sym (kept_names_up looks fields place m wide (omega (arith, room, length-map items places_in)) is)
    ∙ ap (λ l. kept_names l (take (place + 1) fields)) (take-map places_in (place + 1) items) in
    added ∙ ap (λ l. l ++ columns_under (map (key_of name) m) []) c.loop-place.invariant
    ∙ sym (columns_under-append front (map (key_of name) m)) ∙ ap (λ l. columns_under l []) up
