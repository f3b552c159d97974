use Rattle.std.proofs.Common.{◌≡◌, ◌∙◌, [], Err, ap, length, map, rules, sym}
use Rattle.std.proofs.lemmas.List.{length-map, places, with_items_is}
use Rattle.csv.specs.Records.{fields_of}
use Rattle.columns.specs.Layouts.{form_of, looks_in, places_in, records_in}
use Rattle.columns.specs.Table.{columns_under}
use Rattle.columns.specs.TableForms.{kept_names, looks_of, table_by}
use Rattle.tables.specs.TableOfColumns.{named}
use Rattle.columns.proofs.FileLemmas.{first_record, no_record, table_bad, table_good, table_refused}
use Rattle.columns.proofs.KeptLemmas.{length-kept_names}
use Rattle.columns.proofs.TableLemmas.{length_of_header}
use Rattle.columns.proofs.by_records.columns_from.Goals as goal

pub returns-then-not-branch-clause-tells : goal.returns-then-not-branch-clause-tells
returns-then-not-branch-clause-tells c no_read no_want =
    let s = (form_of c.args.form.now).separator in
    no_record (form_of c.args.form.now) c.args.bytes.now _ _ _
    (c.in_ok-next_record.ensures.gave (records_in s c.args.bytes.now) c.requires) c.if-not-branch.true

pub columns_of_header-requires : goal.columns_of_header-requires
columns_of_header-requires c =
    let form = form_of c.args.form.now in
    let header = fields_of c.next_record.new.row in
    let looks = c.in_ok-layout.layout.looks.items in
    ap length c.deref-2.ensures.value ∙ sym (length-map looks places_in) ∙ ap length c.in_ok-layout.ensures.looks
    ∙ length-map header (looks_of form)

pub returns-in_err-columns-clause-tells : goal.returns-in_err-columns-clause-tells
returns-in_err-columns-clause-tells c =
    let form = form_of c.args.form.now in
    let s = (form_of c.args.form.now).separator in
    let (rows, split, reading) = first_record s c.args.bytes.now _ _ _
    (c.in_ok-next_record.ensures.gave (records_in s c.args.bytes.now) c.requires) c.if-not-branch.false in
    let fault = c.in_err-columns.field-0.0 in
    let answer : c.from_residual-in_err-columns.result ≡ Err fault = search rules in
    let refused = rw c.deref-2.ensures.value at c.in_err-columns.ensures.refused in
    rw answer (λ no_read no_want. ap (table_by form) split
    ∙ table_refused form c.in_ok-layout.layout _ rows fault c.in_ok-layout.ensures (refused no_want))

pub read_rows-requires-clause-width : goal.read_rows-requires-clause-width
read_rows-requires-clause-width c =
    let form = form_of c.args.form.now in
    let header = fields_of c.next_record.new.row in
    let looks = (looks_in c.in_ok-layout.layout) in
    let wide : length header ≡ length looks =
    sym (ap length c.in_ok-layout.ensures.looks ∙ length-map header (looks_of form)) in
    let empty : map named c.as_mut_slice.result.now ≡ columns_under (kept_names looks header) [] =
    ap (map named) c.as_mut_slice.ensures.value ∙ rw c.deref-2.ensures.value at c.in_ok-columns.ensures.ok in
    sym (length_of_header c.as_mut_slice.result.now (kept_names looks header) empty
    ∙ length-kept_names looks header wide)

pub returns-in_err-read_rows-clause-tells : goal.returns-in_err-read_rows-clause-tells
returns-in_err-read_rows-clause-tells c =
    let form = form_of c.args.form.now in
    let s = (form_of c.args.form.now).separator in
    let (rows, split, reading) = first_record s c.args.bytes.now _ _ _
    (c.in_ok-next_record.ensures.gave (records_in s c.args.bytes.now) c.requires) c.if-not-branch.false in
    let fault = c.in_err-read_rows.field-0.0 in
    let answer : c.from_residual-in_err-read_rows.result ≡ Err fault = search rules in
    let fits = rw c.deref-2.ensures.value at c.in_ok-columns.ensures.fits in
    rw answer (λ no_read no_want. ap (table_by form) split
    ∙ table_bad form c.in_ok-layout.layout _ rows fault c.in_ok-layout.ensures fits
    (c.in_err-read_rows.ensures.rows rows reading no_want))

pub returns-clause-tells : goal.returns-clause-tells
returns-clause-tells c =
    let form = form_of c.args.form.now in
    let s = (form_of c.args.form.now).separator in
    let header = fields_of c.next_record.new.row in
    let looks = (looks_in c.in_ok-layout.layout) in
    let (rows, split, reading) = first_record s c.args.bytes.now _ _ _
    (c.in_ok-next_record.ensures.gave (records_in s c.args.bytes.now) c.requires) c.if-not-branch.false in
    let fits = rw c.deref-2.ensures.value at c.in_ok-columns.ensures.fits in
    let empty : map named c.as_mut_slice.result.now ≡ columns_under (kept_names looks header) [] =
    ap (map named) c.as_mut_slice.ensures.value ∙ rw c.deref-2.ensures.value at c.in_ok-columns.ensures.ok in
    let (good, under) = c.in_ok-read_rows.ensures.rows rows reading in
    let whole = with_items_is c.in_ok-columns.columns c.read_rows.new.columns (search (rules, places)) in
    ap (table_by form) split
    ∙ table_good form c.in_ok-layout.layout header rows c.of.result c.in_ok-layout.ensures fits good
    (c.of.ensures ∙ ap (map named) whole ∙ rw empty at under)
