use Rattle.std.proofs.Common.{◌≡◌, ◌∙◌, ◌++◌, ap, arith, map}
use Rattle.std.proofs.lemmas.List.{length-map}
use Rattle.csv.specs.Reading.{strip_bom}
use Rattle.tables.specs.TableOfColumns.{named}
use Rattle.columns.proofs.FrontLemmas.{IsPutBy-records}
use Rattle.columns.proofs.MarkLemmas.{strip_bom-mark}
use Rattle.columns.proofs.by_records.put_by_records.Goals as goal

pub returns-clause-put : goal.returns-clause-put
returns-clause-put g c =
    let bytes = c.args.bytes.now in
    let (gone, consumed, grown) = c.in_ok-read_on.ensures.bytes in
    let begun = c.in_ok-extend_from_slice.ensures.items ∙ ap (λ l. l ++ bytes) c.in_ok-text.ensures.items in
    let is : strip_bom c.deref.result.now ≡ bytes ++ gone =
    ap strip_bom (c.deref.ensures.value ∙ grown ∙ ap (λ l. l ++ gone) begun) ∙ strip_bom-mark (bytes ++ gone) in
    IsPutBy-records c.args.layout.now (g.R.CountedRead.remaining c.args.reader.now)
    (g.R.CountedRead.remaining c.read_on.new.reader) bytes gone (strip_bom c.deref.result.now)
    (map named c.args.columns.now) (map named c.put_records.new.columns) c.put_records.result
    (omega (arith, length-map c.args.columns.now named, c.requires.fits.some_column)) consumed is
    c.put_records.ensures.put
