use Rattle.std.proofs.Common.{◌≡◌, ◌≤◌, length, map, take}
use Rattle.csv.specs.Records.{fields_of}
use Rattle.columns.specs.Layouts.{form_of, places_in}
use Rattle.columns.specs.TableForms.{looks_of}
use Rattle.columns.proofs.layout.layout_of.Given as goal

-- the names so far have their looks
abbrev pub invariant-loop-name : goal.invariant-loop-name
invariant-loop-name l =
    (l.name-iterator.row.now ≡ l.header)
    × (l.name-iterator.at ≤ length (fields_of l.header))
    × (map places_in l.looks.items ≡ map (looks_of (form_of l.form)) (take l.name-iterator.at (fields_of l.header)))
