use Rattle.std.proofs.Common.{◌≡◌, map}
use Rattle.tables.specs.Table.{bare}
use Rattle.tables.specs.TableOfColumns.{named}
use Rattle.tables.proofs.table.Columns.without_cells.Given as goal

-- the columns so far have the names so far
abbrev pub invariant-loop-name : goal.invariant-loop-name
invariant-loop-name l = map named l.columns.items ≡ map (λ name. bare name.items) l.yielded
