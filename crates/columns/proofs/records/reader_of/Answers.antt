use Rattle.std.proofs.Common.{◌≡◌, ◌∙◌, ◌+◌, inr, length, arith, ap}
use Rattle.csv.specs.Reading.{AreRecords, reader_config, strip_bom}
use Rattle.csv.specs.declared.parser.Config.{Config}
use Rattle.csv.specs.declared.parser.State.TheVariants as st
use Rattle.columns.specs.Layouts.{records_in}
use Rattle.columns.specs.TableForms.{config_of}
use Rattle.columns.proofs.RecordLemmas.{AreRecords-records_from}
use Rattle.columns.proofs.records.reader_of.Goals as goal

pub returns : goal.returns
returns c =
    let made = c.from_reader.ensures in
    let text = strip_bom c.args.bytes.now in
    let s = c.args.separator in
    let set : Config → Config = λ k. record k { delimiter = s } in
    let config : reader_config c.from_reader.result ≡ config_of s =
    rw (c.flexible.ensures, c.has_headers.ensures, c.delimiter.ensures) at made.config ∙ ap set c.new.ensures.config in
    let all : AreRecords (config_of s) st.StartRecord text (records_in s c.args.bytes.now) =
    AreRecords-records_from (config_of s) (length text + 1) st.StartRecord text (omega arith) in
    record {
      set_up = record {
        untrimmed = rw (c.flexible.ensures, c.has_headers.ensures, c.delimiter.ensures) at made.trim
            ∙ c.new.ensures.trim;
        flexible = rw c.flexible.ensures at made.flexible;
        ready = inr (inr (rw (c.flexible.ensures, c.has_headers.ensures) at made.has_headers, made.headers));
      };
      left = text;
      source = made.source;
      records = rw (config, made.state) all;
    }
