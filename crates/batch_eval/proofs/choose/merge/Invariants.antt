use Rattle.std.proofs.Common.{◌≡◌, ℕ, ◌<◌, ◌≤◌, ℤ, true, false, length, slice_index, Result, Ok}
use Rattle.lambda_values.specs.declared.fault.FaultKind.{FaultKind}
use Rattle.batch_eval.specs.Lanes.{at, Reaches}
use Rattle.batch_eval.specs.Batches.{wanted}
use Rattle.batch_eval.proofs.choose.merge.Given as goal

abbrev pub invariant-loop-i : goal.invariant-loop-i
invariant-loop-i l =
    record {
      yes_count : l.y ≡ length (wanted true l.flags l.i);
      no_count : l.n ≡ length (wanted false l.flags l.i);
      yes_within : l.y ≤ l.ones.reached.live;
      no_within : l.n ≤ l.others.reached.live;
      values : (f : ℕ → Result ℤ FaultKind)
          → Reaches (λ j. f (slice_index (wanted true l.flags l.live) j)) (at l.ones.values.now)
          (length (wanted true l.flags l.live)) l.ones.reached
          → Reaches (λ j. f (slice_index (wanted false l.flags l.live) j)) (at l.others.values.now)
          (length (wanted false l.flags l.live)) l.others.reached
          → (k : ℕ) → k < l.i → f k ≡ Ok (at l.out k);
    }
