use Rattle.std.proofs.Common.{sym, ap, ◌∙◌}
use Rattle.job_language.specs.Scopes.{scope_of}
use Rattle.job_language.specs.Causes.{given}
use Rattle.job_language.specs.Arguments.{reference_cause}
use Rattle.job_language.proofs.ReferenceLemmas.{reference_here, reference_more, no_references}
use Rattle.job_language.proofs.argument.references_cause.Goals as goal

pub returns-in-Some : goal.returns-in-Some
returns-in-Some c =
    let jobs = (scope_of c.args.scope).jobs in
    sym (c.loop-name.invariant ∙ reference_here (scope_of c.args.scope) c.args.names.now c.loop-name.name-index
    c.name-item.result c.in-Some.cause c.loop-name-test.true (
    ap (λ w. reference_cause (given jobs w)) (sym c.name-item.is)
    ∙ ap (λ w. reference_cause (given jobs w)) (sym c.as_slice.ensures)
    ∙ ap reference_cause (sym c.given.ensures)
    ∙ sym c.reference_cause.ensures
    ∙ c.in-Some.is))

pub loop-name-preserved : goal.loop-name-preserved
loop-name-preserved c =
    let jobs = (scope_of c.args.scope).jobs in
    c.loop-name.invariant ∙ reference_more (scope_of c.args.scope) c.args.names.now c.loop-name.name-index
    c.name-item.result c.loop-name-test.true (
    ap (λ w. reference_cause (given jobs w)) (sym c.name-item.is)
    ∙ ap (λ w. reference_cause (given jobs w)) (sym c.as_slice.ensures)
    ∙ ap reference_cause (sym c.given.ensures)
    ∙ sym c.reference_cause.ensures
    ∙ c.in_default.is)

pub returns : goal.returns
returns c = sym (c.loop-name.invariant ∙ no_references (scope_of c.args.scope) c.args.names.now c.loop-name.name-index
    c.loop-name-test.false)
