use Rattle.std.proofs.Common.{◌≡◌, ℕ, ◌+◌, ◌*◌, ◌<◌, None}
use Rattle.batch_eval.specs.Batches.{item_at}
use Rattle.batch_eval.specs.Lanes.{at}
use Rattle.batch_eval.proofs.listing.list_row.Given as goal

abbrev pub invariant-loop-k : goal.invariant-loop-k
invariant-loop-k g l =
    record {
      items : (k : ℕ) → k < l.k → item_at None l.origins l.values (l.first + k)
          ≡ record { origin = l.row.origin; value = at l.row.registers.now (k * 1024 + l.row.lane) };
      before : (k : ℕ) → k < l.first → item_at None l.origins l.values k
          ≡ item_at None l.initial.origins l.initial.values k;
    }
