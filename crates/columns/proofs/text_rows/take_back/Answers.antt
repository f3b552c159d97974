use Rattle.std.proofs.Common.{◌<◌, length, rules}
use Rattle.columns.proofs.TextRowLemmas.{cut_next}
use Rattle.columns.proofs.text_rows.take_back.Goals as goal

pub loop-column-preserved : goal.loop-column-preserved
loop-column-preserved c =
    let (front, rest) = c.loop-column.invariant in
    let i = c.loop-column.column-index in
    let h : i < length c.loop-column.columns = search rules in
    let k : i < length c.args.columns.now = search rules in
    cut_next c.args.rows c.loop-column.columns c.args.columns.now i c.column-item.result _ h k c.column-item.is
    (search rules) front rest
