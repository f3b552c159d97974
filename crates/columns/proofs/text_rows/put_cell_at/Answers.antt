use Rattle.std.proofs.Common.{◌<◌, ◌≤◌, arith, length, sym}
use Rattle.columns.proofs.NumberLemmas.{both_some}
use Rattle.columns.proofs.TextRowLemmas.{IsCellThere-integer}
use Rattle.columns.proofs.text_rows.put_cell_at.Goals as goal

pub returns-in-Integers-clause-read : goal.returns-in-Integers-clause-read
returns-in-Integers-clause-read c =
    let room : 1 ≤ length c.args.columns.now = rw c.in-Integers.is at c.requires.room in
    let within : 0 < length c.args.columns.now = omega (arith, room) in
    let read = c.put_number.ensures.read in
    rw c.in-Integers.is (both_some _ _ _ c.put_number.result read read (λ next put same.
    let (n, there, grown) = put in
    IsCellThere-integer _ _ _ _ _ c.args.columns.now c.index-columns-0.result _ n within there c.index-columns-0.is
    (rw (sym c.index-columns-0.is) at grown)))
