use Rattle.std.proofs.Common.{◌≡◌, ◌≤◌, ℕ, drop, length, map, take}
use Rattle.tables.specs.TableOfColumns.{named}
use Rattle.columns.specs.Layouts.{places_in}
use Rattle.columns.specs.TextRows.{AreCellsIn, HaveRows, IsBegun, look_count}
use Rattle.columns.proofs.text_rows.read_text_row.Given as goal

-- the cells so far are read
abbrev pub invariant-loop-place : goal.invariant-loop-place
invariant-loop-place l =
    (l.at ≤ l.next) × (l.next ≤ length l.text) × (l.column ≡ look_count (take l.place (map places_in l.looks)))
    × AreCellsIn l.layout.separator l.layout.blank (map places_in l.looks) (drop l.at l.text) (drop l.next l.text)
    l.place (map named l.initial.columns) (map named l.columns)
    × ((n : ℕ) → HaveRows n (map named l.initial.columns)
    → IsBegun n (map named l.initial.columns) (map named l.columns))
