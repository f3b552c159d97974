use Rattle.std.proofs.Common.{◌≡◌, [], map, take}
use Rattle.csv.specs.Records.{fields_of}
use Rattle.columns.specs.Layouts.{places_in}
use Rattle.columns.specs.Table.{columns_under}
use Rattle.columns.specs.TableForms.{kept_names}
use Rattle.tables.specs.TableOfColumns.{named}
use Rattle.columns.proofs.rows.columns_named.Given as goal

-- the columns so far stand under the keys so far
abbrev pub invariant-loop-place : goal.invariant-loop-place
invariant-loop-place l = map named l.columns.items
    ≡ columns_under (kept_names (map places_in (take l.place l.looks)) (take l.place (fields_of l.header))) []
