use Rattle.std.proofs.Common.{◌≡◌, ◌<◌, ℕ, Ok}
use Rattle.lambda_values.specs.Term.{truth_of}
use Rattle.lambda_values.specs.Value.{truth_value}
use Rattle.batch_eval.specs.Batches.{item_at}
use Rattle.batch_eval.proofs.passing.count_one_by_one.Given as goal

abbrev pub invariant-loop-position : goal.invariant-loop-position
invariant-loop-position l = (k : ℕ) → k < l.position
    → truth_value (truth_of l.test) (item_at l.lanes.start l.lanes.places.now l.lanes.values.now k) l.env ≡ Ok l.wanted
