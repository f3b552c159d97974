use Rattle.std.proofs.Common.{◌≡◌, ℕ, ◌<◌, ◌≤◌, length, slice_index}
use Rattle.batch_eval.specs.Lanes.{at}
use Rattle.batch_eval.specs.Batches.{origin_at, passing}
use Rattle.batch_eval.proofs.keep.keep_lanes.Given as goal

abbrev pub invariant-loop-i : goal.invariant-loop-i
invariant-loop-i l =
    record {
      count : l.kept ≡ length (passing l.flags l.i);
      within : l.kept ≤ l.i;
      values : (j : ℕ) → j < l.kept → at l.values j ≡ at l.fn.values (slice_index (passing l.flags l.i) j);
      origins : (j : ℕ) → j < l.kept → slice_index l.origins j
          ≡ origin_at l.start l.fn.origins (slice_index (passing l.flags l.i) j);
      rest_values : (k : ℕ) → l.i ≤ k → at l.values k ≡ at l.fn.values k;
      rest_origins : (k : ℕ) → l.i ≤ k → slice_index l.origins k ≡ slice_index l.fn.origins k;
    }
