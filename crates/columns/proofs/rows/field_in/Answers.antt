use Rattle.std.proofs.Common.{◌≡◌, ◌∙◌, [], Some, sym}
use Rattle.std.proofs.lemmas.Option.{get_or_from_slice_get}
use Rattle.std.specs.Prelude.{slice_get}
use Rattle.csv.specs.Records.{fields_of}
use Rattle.columns.proofs.RowLemmas.{field_at_is, get_or_end}
use Rattle.columns.proofs.rows.field_in.Goals as goal

pub returns-in-Some : goal.returns-in-Some
returns-in-Some c =
    let fields = fields_of c.args.row.now in
    let there : slice_get fields c.args.place ≡ Some c.in-Some.field.now =
    sym (c.in-Some.ensures.value ∙ field_at_is fields c.args.place) in
    sym (get_or_from_slice_get fields c.args.place c.in-Some.field.now [] there)

pub returns-in-None : goal.returns-in-None
returns-in-None c =
    let fields = fields_of c.args.row.now in
    sym (get_or_end fields c.args.place (sym (c.in-None.ensures.value ∙ field_at_is fields c.args.place)))
