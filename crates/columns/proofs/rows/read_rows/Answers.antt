use Rattle.std.proofs.Common.{◌≡◌, Err, map, rules}
use Rattle.tables.specs.TableOfColumns.{named}
use Rattle.columns.proofs.RowLemmas.{RowsLeft-end, RowsLeft-fault, RowsLeft-more}
use Rattle.columns.proofs.rows.read_rows.Goals as goal

pub returns-then-not-branch-clause-rows : goal.returns-then-not-branch-clause-rows
returns-then-not-branch-clause-rows c rows r =
    let so_far = c.loop-number.invariant.so_far rows r in
    RowsLeft-end _ _ _ _ _ _ _ rows _ _ so_far (c.in_ok-next_record.ensures.gave so_far.left so_far.reading)
    c.if-not-branch.true

pub returns-in_err-read_row-clause-rows : goal.returns-in_err-read_row-clause-rows
returns-in_err-read_row-clause-rows c rows r =
    let so_far = c.loop-number.invariant.so_far rows r in
    let fault = c.in_err-read_row.field-0.0 in
    let answer : c.from_residual-in_err-read_row.result ≡ Err fault = search rules in
    rw answer (λ no_want. RowsLeft-fault _ _ _ _ _ _ _ rows _ _ fault so_far
    (c.in_ok-next_record.ensures.gave so_far.left so_far.reading) c.if-not-branch.false
    (c.in_err-read_row.ensures.refused no_want))

pub loop-number-preserved : goal.loop-number-preserved
loop-number-preserved c = record {
  set_up = c.in_ok-next_record.ensures.set_up;
  so_far = λ rows r.
      let so_far = c.loop-number.invariant.so_far rows r in
      let row = c.in_ok-read_row.ensures in
      RowsLeft-more _ _ _ _ _ (map named c.loop-number.columns) _ _ rows _ _ so_far
      (c.in_ok-next_record.ensures.gave so_far.left so_far.reading) c.if-not-branch.false row.fits row.ok;
}
