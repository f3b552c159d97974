use Rattle.std.proofs.Common.{◌≡◌, ◌∙◌, Err, Ok, ap, drop, map, rules, sym}
use Rattle.std.proofs.lemmas.List.{places, with_items_is}
use Rattle.columns.specs.Fronts.{IsFront}
use Rattle.columns.specs.Layouts.{form_of}
use Rattle.tables.specs.TableOfColumns.{named}
use Rattle.columns.proofs.FrontLemmas.{text_columns, text_fault}
use Rattle.columns.proofs.reading.columns_alone.Goals as goal

pub returns-in_err-put_text-clause-tells : goal.returns-in_err-put_text-clause-tells
returns-in_err-put_text-clause-tells c =
    let form = form_of c.args.form.now in
    let text = c.without_mark.result.now in
    let fault = c.in_err-put_text.field-0.0 in
    let answer : c.from_residual.result ≡ Err fault = search rules in
    let front : IsFront form c.in-Some.layout text (drop c.in-Some.from text) (map named c.as_mut_slice.result.now) =
    rw (c.without_mark.ensures, c.as_mut_slice.ensures.value) c.in-Some.ensures.front in
    rw answer (text_fault form c.args.bytes.now text (map named c.put_text.new.columns) fault c.without_mark.ensures
    (c.in_err-put_text.ensures.put form front))

pub returns-clause-tells : goal.returns-clause-tells
returns-clause-tells c =
    let form = form_of c.args.form.now in
    let text = c.without_mark.result.now in
    let front : IsFront form c.in-Some.layout text (drop c.in-Some.from text) (map named c.as_mut_slice.result.now) =
    rw (c.without_mark.ensures, c.as_mut_slice.ensures.value) c.in-Some.ensures.front in
    let whole = with_items_is c.in-Some.columns c.put_text.new.columns (search (rules, places)) in
    text_columns form c.args.bytes.now text (map named c.put_text.new.columns) c.without_mark.ensures
    (c.in_ok-put_text.ensures.put form front)
    ∙ ap Ok (sym (c.of.ensures ∙ ap (map named) whole))
