use Rattle.std.proofs.Common.{sym, ap, ◌∙◌}
use Rattle.tables.specs.Table.{cells_named}
use Rattle.job_language.specs.Scopes.{scope_of}
use Rattle.job_language.specs.Arguments.{cell_cause}
use Rattle.job_language.proofs.ReferenceLemmas.{cell_here, cell_more, no_cells}
use Rattle.job_language.proofs.argument.cells_cause.Goals as goal

pub returns-in-Some : goal.returns-in-Some
returns-in-Some c =
    let s = scope_of c.args.scope in
    sym (c.loop-name.invariant ∙ cell_here s c.args.names.now c.loop-name.name-index c.name-item.result c.in-Some.cause
    c.loop-name-test.true (
    ap (λ w. cell_cause s.rows (cells_named w s.columns)) (sym c.name-item.is)
    ∙ ap (λ w. cell_cause s.rows (cells_named w s.columns)) (sym c.as_slice.ensures)
    ∙ sym c.cell_cause.ensures
    ∙ c.in-Some.is))

pub loop-name-preserved : goal.loop-name-preserved
loop-name-preserved c =
    let s = scope_of c.args.scope in
    c.loop-name.invariant ∙ cell_more s c.args.names.now c.loop-name.name-index c.name-item.result c.loop-name-test.true
    (
    ap (λ w. cell_cause s.rows (cells_named w s.columns)) (sym c.name-item.is)
    ∙ ap (λ w. cell_cause s.rows (cells_named w s.columns)) (sym c.as_slice.ensures)
    ∙ sym c.cell_cause.ensures
    ∙ c.in_default.is)

pub returns : goal.returns
returns c = sym (c.loop-name.invariant ∙ no_cells (scope_of c.args.scope) c.args.names.now c.loop-name.name-index
    c.loop-name-test.false)
