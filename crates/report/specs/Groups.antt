-- Condition: numbers that lie in pieces, in groups of runs.
use Rattle.std.specs.Prelude.{ℤ, List, ◌++◌, flat_map}
use Rattle.report.specs.Runs.{runs_in}
use Rattle.report.specs.declared.groups.Groups.{Groups}

-- the numbers of groups that are being made
abbrev pub grouped : Groups → List ℤ
grouped groups = flat_map (λ group. runs_in group.items) groups.whole.items ++ runs_in groups.last.items
