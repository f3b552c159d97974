use Rattle.columns.specs.Layouts.{form_of}
use Rattle.columns.proofs.CutLemmas.{answer_before, known_before}
use Rattle.columns.proofs.reading.read_columns_by.Goals as goal

pub returns-clause-cells : goal.returns-clause-cells
returns-clause-cells g c =
    known_before (form_of c.of_integers-form.result) c.of_integers-form.ensures
    (g.R.CountedRead.remaining c.args.reader.now) c.read_columns_as.result c.read_columns_as.ensures.cells

pub returns-clause-some_bytes : goal.returns-clause-some_bytes
returns-clause-some_bytes g c =
    let (bytes, is) = c.read_columns_as.ensures.some_bytes in (
      bytes,
      answer_before (form_of c.of_integers-form.result) c.of_integers-form.ensures bytes c.read_columns_as.result
          is,
    )
