use Rattle.std.proofs.Common.{◌≡◌, ℕ, ◌+◌, ◌<◌, Some, None}
use Rattle.std.specs.List.{slice_get}
use Rattle.batch_eval.specs.Batches.{item_at}
use Rattle.batch_eval.proofs.listing.list_items.Given as goal

abbrev pub invariant-loop-lane : goal.invariant-loop-lane
invariant-loop-lane g l =
    record {
      items : (k : ℕ) → k < l.lane → slice_get (g.I.SourceItems.items l.source) (l.position + k)
          ≡ Some (item_at None l.origins l.values (l.first + k));
      before : (k : ℕ) → k < l.first → item_at None l.origins l.values k
          ≡ item_at None l.initial.origins l.initial.values k;
    }
