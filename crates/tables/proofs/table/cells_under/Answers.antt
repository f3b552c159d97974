use Rattle.std.proofs.Common.{◌≡◌, None, Some, find, refl, rules}
use Rattle.std.specs.Str.{bytes_eq}
use Rattle.tables.proofs.TableLemmas.{cells_named-map}
use Rattle.tables.proofs.table.cells_under.Goals as goal

pub returns-in_err-column : goal.returns-in_err-column
returns-in_err-column c =
    let none : c.from_residual.result ≡ None = search rules in
    let nowhere : find (λ k. bytes_eq k.name.items c.args.name.now) c.args.columns.now ≡ None = search rules in
    rw (none, cells_named-map, nowhere) refl

pub returns : goal.returns
returns c =
    let found : find (λ k. bytes_eq k.name.items c.args.name.now) c.args.columns.now ≡ Some c.in_ok-column.column.now =
    search rules in
    rw (c.as_slice.ensures.value, cells_named-map, found) refl
