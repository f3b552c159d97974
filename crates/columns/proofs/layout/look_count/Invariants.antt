use Rattle.std.proofs.Common.{◌≡◌, ◌<◌, ◌≤◌, ◌-◌, ◌^◌, map, take}
use Rattle.columns.specs.Layouts.{places_in}
use Rattle.columns.specs.TextRows.{look_count}
use Rattle.columns.proofs.layout.look_count.Given as goal

abbrev pub invariant-loop-look : goal.invariant-loop-look
invariant-loop-look l =
    (l.count ≤ look_count (map places_in (take l.look-index l.looks)))
    × (l.count < 2 ^ 64 - 1 → l.count ≡ look_count (map places_in (take l.look-index l.looks)))
