use Rattle.std.proofs.Common.{◌≡◌, ◌<◌, ℕ}
use Rattle.batch_eval.specs.Lanes.{at}
use Rattle.batch_eval.specs.Rows.{row_at}
use Rattle.batch_eval.proofs.rows.gather_cells.Given as goal

abbrev pub invariant-loop-lane : goal.invariant-loop-lane
invariant-loop-lane l = (k : ℕ) → k < l.lane → at l.out k ≡ at l.cells (row_at l.rows k)
