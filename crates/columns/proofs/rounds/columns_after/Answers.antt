use Rattle.std.proofs.Common.{◌≡◌, ◌∙◌, ◌++◌, Err, Ok, ap, map, rules, sym}
use Rattle.std.proofs.lemmas.List.{places, with_items_is}
use Rattle.tables.specs.TableOfColumns.{named}
use Rattle.columns.specs.Fronts.{left_in}
use Rattle.columns.proofs.FrontLemmas.{file_answer, file_columns, file_fault}
use Rattle.columns.proofs.rounds.columns_after.Goals as goal

pub returns-clause-answer : goal.returns-clause-answer
returns-clause-answer g c =
    let rem = g.R.CountedRead.remaining in
    let bytes = c.args.rounds.bytes.items in
    let before = map named c.as_mut_slice-slice.result.now in
    let now = map named c.put_rounds.new.columns in
    let (gone, consumed, is) = file_answer c.args.layout.now (rem c.args.reader.now) (rem c.put_rounds.new.reader) bytes
    (left_in c.args.rounds) before now (Ok tt) (search rules)
    c.in_ok-put_rounds.ensures.put in
    let whole = with_items_is c.args.columns c.put_rounds.new.columns (search (rules, places)) in (
      gone,
      consumed,
      λ form f. file_columns form (bytes ++ gone) now (is form (rw c.as_mut_slice-slice.ensures.value f))
          ∙ ap Ok (sym (c.of.ensures ∙ ap (map named) whole)),
    )

pub returns-in_err-put_rounds-clause-answer : goal.returns-in_err-put_rounds-clause-answer
returns-in_err-put_rounds-clause-answer g c =
    let rem = g.R.CountedRead.remaining in
    let bytes = c.args.rounds.bytes.items in
    let before = map named c.as_mut_slice-slice.result.now in
    let now = map named c.put_rounds.new.columns in
    let fault = c.in_err-put_rounds.field-0.0 in
    let answer : c.from_residual.result ≡ Err fault = search rules in
    let (gone, consumed, is) = file_answer c.args.layout.now (rem c.args.reader.now) (rem c.put_rounds.new.reader) bytes
    (left_in c.args.rounds) before now (Err fault) (search rules)
    c.in_err-put_rounds.ensures.put in
    rw answer (
      gone,
      consumed,
      λ form f. file_fault form (bytes ++ gone) now fault
          (is form (rw c.as_mut_slice-slice.ensures.value f)),
    )
