-- Condition: how far a walk over ordered nodes has come that counts the equal ones.
use Rattle.std.specs.Prelude.{◌≡◌, ℕ, ◌-◌, ◌<◌, ◌≤◌, List, take, slice_index}
use Rattle.completion_core.specs.Legal.{count}

-- up to p, no node stands more often than it is held, and the one before p stands `alike` times
pub record HoldsUpTo (nodes : List ℕ) (held : ℕ → ℕ) (p alike before : ℕ) : Type 0 where
  pub enough : (i : ℕ) → count i (take p nodes) ≤ held i
  pub alike_is : count before (take p nodes) ≡ alike
  pub before_is : 0 < p → before ≡ slice_index nodes (p - 1)
  pub few : alike ≤ p
