use Rattle.std.proofs.Common.{◌≡◌, subst, sym}
use Rattle.csv.specs.Reading.{strip_bom}
use Rattle.columns.specs.Layouts.{records_in}
use Rattle.columns.specs.Records.{IsReading}
use Rattle.columns.proofs.FrontLemmas.{rows_of_text}
use Rattle.columns.proofs.TextRowLemmas.{AreRowsIn-same}
use Rattle.columns.proofs.by_records.put_records.Goals as goal

pub returns-clause-put : goal.returns-clause-put
returns-clause-put c rows all =
    let s = c.args.layout.now.separator in
    let text = strip_bom c.args.text.now in
    let is : records_in s c.args.text.now ≡ rows =
    AreRowsIn-same s text (records_in s c.args.text.now) rows (rows_of_text s text) all in
    let reading : IsReading c.reader_of-reader.result rows =
    subst (IsReading c.reader_of-reader.result) is c.reader_of-reader.ensures in
    rw (sym c.row_count-number.ensures.rows) (c.read_rows.ensures.rows rows reading)
