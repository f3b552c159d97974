use Rattle.std.proofs.Common.{◌≡◌, ◌<◌, arith, drop, length, map, rules, subst}
use Rattle.std.proofs.lemmas.List.{length-map, take_rest}
use Rattle.columns.specs.Fronts.{ArePutUnder}
use Rattle.tables.specs.TableOfColumns.{named}
use Rattle.columns.proofs.FrontLemmas.{IsFront-put}
use Rattle.columns.proofs.reading.put_text.Goals as goal

pub read_text_rows-end-requires-clause-even : goal.read_text_rows-end-requires-clause-even
read_text_rows-end-requires-clause-even c = (0, c.requires.empty)

pub returns-clause-put : goal.returns-clause-put
returns-clause-put c form f =
    let l = c.args.layout.now in
    let text = c.args.text.now in
    let end = c.read_text_rows-end.result in
    let now = map named c.read_text_rows-end.new.columns in
    let width : length c.read_text_rows-end.new.columns ≡ length c.args.columns.now = search rules in
    let some : 0 < length now = omega (
      arith,
      length-map c.read_text_rows-end.new.columns named,
      width,
      c.requires.fits.some_column,
    ) in
    let put = subst (λ t. ArePutUnder l t now c.put_rest.result (map named c.put_rest.new.columns)) (take_rest text end)
    c.put_rest.ensures.put in
    IsFront-put form l text (drop c.args.from text) (drop end text) (map named c.args.columns.now) now
    (map named c.put_rest.new.columns) c.put_rest.result some c.read_text_rows-end.ensures.read put f
