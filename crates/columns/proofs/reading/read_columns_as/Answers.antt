use Rattle.columns.specs.Layouts.{form_of}
use Rattle.columns.proofs.FrontLemmas.{answer_known, whole_ok}
use Rattle.columns.proofs.reading.read_columns_as.Goals as goal

pub returns-clause-cells : goal.returns-clause-cells
returns-clause-cells g c =
    let rem = g.R.CountedRead.remaining in
    let (gone, consumed, is) = c.columns_up_to.ensures.answer in
    answer_known (form_of c.args.form.now) (rem c.args.reader.now) (rem c.columns_up_to.new.reader) gone
    c.columns_up_to.result consumed c.columns_up_to.ensures.end is

pub returns-clause-end : goal.returns-clause-end
returns-clause-end g c = whole_ok (g.R.CountedRead.remaining c.columns_up_to.new.reader) c.columns_up_to.result
    c.columns_up_to.ensures.end

pub returns-clause-gave : goal.returns-clause-gave
returns-clause-gave g c = let (gone, consumed, is) = c.columns_up_to.ensures.answer in (gone, consumed)

pub returns-clause-some_bytes : goal.returns-clause-some_bytes
returns-clause-some_bytes g c = let (gone, consumed, is) = c.columns_up_to.ensures.answer in (gone, is)
