-- Condition: what the columns in memory show.
use Rattle.std.specs.Prelude.{List, [], Option, Some, None}
use Rattle.std.specs.declared.vec.Vec.{Vec}
use Rattle.tables.specs.declared.table.Column.{Column}
use Rattle.tables.specs.Table.{NamedColumn}

-- a column as its name and its numbers
abbrev pub named : Column → NamedColumn
named c = record { name = c.name.items; cells = c.cells.items }

-- the columns, or none of them
abbrev pub columns_in : {A : Type 0} → Option (Vec Column A) → List Column
columns_in None = []
columns_in (Some columns) = columns.items
