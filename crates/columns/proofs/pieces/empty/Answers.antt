use Rattle.std.proofs.Common.{rules}
use Rattle.columns.proofs.PieceLemmas.{emptied_more}
use Rattle.columns.proofs.pieces.empty.Goals as goal

pub loop-column-preserved : goal.loop-column-preserved
loop-column-preserved c =
    emptied_more c.loop-column.columns c.loop-column.column-index _ (search rules) c.clear.ensures.items
    c.clear-in-loop-column.ensures.items c.loop-column.invariant
