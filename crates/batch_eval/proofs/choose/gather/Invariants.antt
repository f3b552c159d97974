use Rattle.std.proofs.Common.{◌≡◌, ℕ, ◌<◌, ◌≤◌, length, slice_index}
use Rattle.batch_eval.specs.Lanes.{at}
use Rattle.batch_eval.specs.Batches.{wanted}
use Rattle.batch_eval.proofs.choose.gather.Given as goal

abbrev pub invariant-loop-i : goal.invariant-loop-i
invariant-loop-i l =
    record {
      count : l.kept ≡ length (wanted l.kind l.flags l.i);
      within : l.kept ≤ l.i;
      values : (j : ℕ) → j < l.kept → at l.out j ≡ at l.xs (slice_index (wanted l.kind l.flags l.i) j);
    }
