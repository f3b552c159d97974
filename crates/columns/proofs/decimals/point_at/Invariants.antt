use Rattle.std.proofs.Common.{◌≡◌, ◌≤◌, ◌++◌, ◌-◌, length, take, drop}
use Rattle.columns.specs.Decimals.{before_point, from_point}
use Rattle.columns.proofs.decimals.point_at.Given as goal

-- no point stands before this place
abbrev pub invariant-loop-at : goal.invariant-loop-at
invariant-loop-at l =
    (l.at ≤ length l.text)
    × (before_point l.text ≡ take l.at l.text ++ before_point (drop l.at l.text))
    × (from_point l.text ≡ from_point (drop l.at l.text))

abbrev pub decreases-loop-at : goal.decreases-loop-at
decreases-loop-at l = length l.text - l.at
