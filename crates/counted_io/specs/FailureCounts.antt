-- Condition: a count of failures that saturates.
use Rattle.std.specs.Prelude.{◌<◌, ◌≤◌, ◌+◌, ◌-◌, ◌^◌, ◌⊎◌, ℕ, nat_lt, if◌then◌else◌}

-- the greatest count that a `u64` holds
abbrev pub greatest_count : ℕ
greatest_count = 2 ^ 64 - 1

-- one more failure, if there is room
abbrev pub one_more : ℕ → ℕ
one_more n = if nat_lt n greatest_count then n + 1 else n

-- a call failed between the two counts; the greatest count can't rise, so it is taken as increased
abbrev pub HasRisen : ℕ → ℕ → Type 0
HasRisen before after = (before < after) ⊎ (greatest_count ≤ before)
