-- Design: splits of a list of items.
use Rattle.std.specs.Prelude.{◌≡◌, ◌≢◌, ℕ, ◌-◌, ℤ, pos, ◌+ℤ◌, List, [], ◌++◌}
use Rattle.lambda_values.specs.declared.item.Item.{Item}
use Rattle.trace.specs.Cover.{counted, placed}

-- a prefix and the rest, one after the other, are the whole, and both have items (`Spliterator.trySplit`)
pub record IsSplit (prefix rest whole : List Item) : Type 0 where
  pub joined : prefix ++ rest ≡ whole
  pub handed_out : prefix ≢ []
  pub kept : rest ≢ []

-- the items at these positions of a source that counts up from a start
abbrev pub split_items : ℤ → ℕ → ℕ → List Item
split_items start from to = placed from (counted (start +ℤ pos from) (to - from))
