use Rattle.std.proofs.Common.{◌≡◌, ℕ, ◌<◌, ◌≤◌, length, slice_index}
use Rattle.std.specs.Int.{w64, cast_unsigned}
use Rattle.batch_eval.specs.Lanes.{at}
use Rattle.batch_eval.specs.Batches.{wanted}
use Rattle.batch_eval.specs.Rows.{row_at}
use Rattle.batch_eval.proofs.rows.gather_places.Given as goal

abbrev pub invariant-loop-i : goal.invariant-loop-i
invariant-loop-i l =
    record {
      count : l.kept ≡ length (wanted l.kind l.flags l.i);
      within : l.kept ≤ l.i;
      values : (j : ℕ) → j < l.kept → cast_unsigned w64 (at l.out j)
          ≡ row_at l.rows (slice_index (wanted l.kind l.flags l.i) j);
    }
