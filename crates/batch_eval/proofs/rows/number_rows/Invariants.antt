use Rattle.std.proofs.Common.{◌≡◌, ◌<◌, ℕ, pos}
use Rattle.lambda_values.specs.Wrap.{wrap}
use Rattle.batch_eval.specs.Lanes.{at}
use Rattle.batch_eval.specs.Rows.{row_at}
use Rattle.batch_eval.proofs.rows.number_rows.Given as goal

abbrev pub invariant-loop-lane : goal.invariant-loop-lane
invariant-loop-lane l = (k : ℕ) → k < l.lane → at l.out k ≡ wrap (pos (row_at l.rows k))
