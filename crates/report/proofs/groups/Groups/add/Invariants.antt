use Rattle.std.proofs.Common.{◌≡◌, ◌<◌, ◌++◌, length}
use Rattle.report.specs.Groups.{grouped}
use Rattle.report.proofs.groups.Groups.add.Given as goal

-- what is in groups, and what is left, are all numbers
abbrev pub invariant-loop-room : goal.invariant-loop-room
invariant-loop-room l = (0 < l.room) × (grouped l.self ++ l.left ≡ grouped l.initial.self ++ l.numbers)

abbrev pub decreases-loop-room : goal.decreases-loop-room
decreases-loop-room l = length l.left
