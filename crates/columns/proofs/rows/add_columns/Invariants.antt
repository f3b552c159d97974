use Rattle.std.proofs.Common.{◌≡◌, ◌++◌, [], map, take}
use Rattle.job_names.specs.ColumnKeys.{key_of}
use Rattle.columns.specs.Table.{columns_under}
use Rattle.tables.specs.TableOfColumns.{named}
use Rattle.columns.proofs.rows.add_columns.Given as goal

-- the columns so far are added
abbrev pub invariant-loop-at : goal.invariant-loop-at
invariant-loop-at l = map named l.columns.items
    ≡ map named l.initial.columns.items ++ columns_under (map (key_of l.name) (take l.at l.places)) []
