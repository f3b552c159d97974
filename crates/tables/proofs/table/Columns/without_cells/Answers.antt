use Rattle.std.proofs.Common.{◌≡◌, ◌∙◌, ◌∷◌, ◌++◌, [], ap, sym, map, refl}
use Rattle.std.proofs.lemmas.List.{map_push}
use Rattle.tables.specs.Table.{bare}
use Rattle.tables.specs.TableOfColumns.{named}
use Rattle.tables.proofs.table.Columns.without_cells.Goals as goal

pub loop-name-preserved : goal.loop-name-preserved
loop-name-preserved c =
    let names = map_push (λ name. bare name.items) c.loop-name.yielded c.in-Some.name in
    rw (c.in_ok-push.ensures.items, map_push named, c.loop-name.invariant, c.new.ensures.items) (sym names)
