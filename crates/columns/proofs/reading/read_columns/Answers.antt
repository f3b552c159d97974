use Rattle.columns.specs.Layouts.{IsAnswerBy, form_of}
use Rattle.columns.proofs.CutLemmas.{all_before, answer_before}
use Rattle.columns.proofs.reading.read_columns.Goals as goal

pub returns-clause-cells : goal.returns-clause-cells
returns-clause-cells g c =
    let form = form_of c.of_integers-form.result in
    let bytes = c.in_ok-bytes.bytes.items in
    let is : IsAnswerBy form bytes c.columns_alone.result = rw c.deref.ensures.value at c.columns_alone.ensures.tells in
    all_before form c.of_integers-form.ensures (g.R.CountedRead.remaining c.args.reader.now) bytes
    c.columns_alone.result c.in_ok-bytes.ensures.bytes is

pub returns-clause-some_bytes : goal.returns-clause-some_bytes
returns-clause-some_bytes g c =
    let form = form_of c.of_integers-form.result in
    let bytes = c.in_ok-bytes.bytes.items in
    let is : IsAnswerBy form bytes c.columns_alone.result = rw c.deref.ensures.value at c.columns_alone.ensures.tells in
    (bytes, answer_before form c.of_integers-form.ensures bytes c.columns_alone.result is)
