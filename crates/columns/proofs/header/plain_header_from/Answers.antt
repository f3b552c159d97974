use Rattle.std.proofs.Common.{◌≡◌, ◌<◌, ◌∙◌, ap, arith, length, rules, sym}
use Rattle.std.proofs.lemmas.List.{length-map}
use Rattle.csv.specs.Records.{fields_of}
use Rattle.columns.specs.Layouts.{form_of, looks_in, records_in}
use Rattle.columns.specs.TableForms.{kept_names, looks_of}
use Rattle.columns.specs.TextRows.{look_count}
use Rattle.columns.proofs.FileLemmas.{first_record}
use Rattle.columns.proofs.FrontLemmas.{HaveRows-under, IsFront-header}
use Rattle.columns.proofs.KeptLemmas.{length-kept_names, some_look}
use Rattle.columns.proofs.Separators.{separates}
use Rattle.columns.proofs.TableLemmas.{length_of_header}
use Rattle.columns.proofs.header.plain_header_from.Goals as goal

pub returns-clause-front : goal.returns-clause-front
returns-clause-front c =
    let bytes = c.args.bytes.now in
    let s = (form_of c.args.form.now).separator in
    let found = c.in-Ok-true.ensures.gave (records_in s bytes) c.requires in
    let (rows, split, reading) = first_record s bytes _ _ _ found c.in-Ok-true.field-0-test in
    let header = c.in_ok-columns.ensures in
    let first = rw (c.without_mark.ensures, c.byte.ensures) at c.in_ok-end.ensures.first in
    IsFront-header (form_of c.args.form.now) c.in_ok-columns.layout bytes _ (fields_of c.next_record.new.row) rows _
    first split header.layout header.fits header.under

pub returns-clause-fits : goal.returns-clause-fits
returns-clause-fits c =
    let form = form_of c.args.form.now in
    let l = c.in_ok-columns.layout in
    let looks = looks_in l in
    let header = fields_of c.next_record.new.row in
    let is = c.in_ok-columns.ensures.layout in
    let columns = c.in_ok-columns.columns.items in
    let long : length header ≡ length looks = sym (ap length is.looks ∙ length-map header (looks_of form)) in
    let wide : look_count looks ≡ length columns =
    sym (length_of_header columns (kept_names looks header) c.in_ok-columns.ensures.under
    ∙ length-kept_names looks header long) in
    let some : 0 < length columns = search rules in
    record {
      separator = rw is.separator (separates c.args.form.now.separator);
      some_cell = omega (arith, some, wide, some_look looks);
      some_column = some;
      wide = wide;
    }

pub returns-clause-empty : goal.returns-clause-empty
returns-clause-empty c =
    rw c.in_ok-columns.ensures.under (HaveRows-under
    (kept_names (looks_in c.in_ok-columns.layout) (fields_of c.next_record.new.row)))

pub header_end-requires : goal.header_end-requires
header_end-requires c = rw c.byte.ensures (separates c.args.form.now.separator)
