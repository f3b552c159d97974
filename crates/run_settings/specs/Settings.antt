-- Design: the limits of the settings of a run.
use Rattle.std.specs.Prelude.{ℕ, ◌≤◌}

-- 1 to 64 workers, a threshold of 1 to 1,048,576 items, and at most 1,048,576 nodes
pub record AreWithin (workers threshold nodes : ℕ) : Type 0 where
  pub a_worker : 1 ≤ workers
  pub few_workers : workers ≤ 64
  pub an_item : 1 ≤ threshold
  pub few_items : threshold ≤ 1048576
  pub few_nodes : nodes ≤ 1048576
