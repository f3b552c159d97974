use Rattle.std.proofs.Common.{◌≡◌, None, sym, ap, subst, ◌∙◌}
use Rattle.lambda_values.specs.Lambda.{body_of}
use Rattle.lambda_values.specs.References.{names_of}
use Rattle.job_language.specs.Scopes.{scope_of}
use Rattle.job_language.specs.Causes.{first_cause}
use Rattle.job_language.specs.Arguments.{cell_causes, reference_causes, named_causes, after_names}
use Rattle.job_language.specs.Parts.{argument_in, Answers}
use Rattle.job_language.proofs.ReferenceLemmas.{by_cells, by_references}
use Rattle.job_language.proofs.argument.checked.Goals as goal

pub returns-in-Some : goal.returns-in-Some
returns-in-Some c = λ other.
    let s = scope_of c.args.scope in
    let l = body_of c.args.lambda.body in
    ap (λ f. after_names f l) (by_references s l c.in-Some.cause
    (ap (λ v. first_cause (reference_causes s v)) (sym c.in_ok-names.ensures ∙ sym c.deref.ensures.value)
    ∙ sym c.references_cause.ensures ∙ c.in-Some.is))

pub returns-in-Some-cells_cause : goal.returns-in-Some-cells_cause
returns-in-Some-cells_cause c = λ other.
    let s = scope_of c.args.scope in
    let l = body_of c.args.lambda.body in
    let none : first_cause (reference_causes s (names_of l)) ≡ None =
    ap (λ v. first_cause (reference_causes s v)) (sym c.in_ok-names.ensures ∙ sym c.deref.ensures.value)
    ∙ sym c.references_cause.ensures ∙ c.in_default.is in
    ap (λ f. after_names f l) (by_cells s l none
    ∙ ap (λ v. first_cause (cell_causes s v)) (sym c.in_ok-cells.ensures ∙ sym c.deref-2.ensures.value)
    ∙ sym c.cells_cause.ensures ∙ c.in-Some-cells_cause.is)

pub returns : goal.returns
returns c =
    let s = scope_of c.args.scope in
    let l = body_of c.args.lambda.body in
    let none : first_cause (reference_causes s (names_of l)) ≡ None =
    ap (λ v. first_cause (reference_causes s v)) (sym c.in_ok-names.ensures ∙ sym c.deref.ensures.value)
    ∙ sym c.references_cause.ensures ∙ c.in_default.is in
    let both : first_cause (named_causes s l) ≡ None =
    by_cells s l none ∙ ap (λ v. first_cause (cell_causes s v))
    (sym c.in_ok-cells.ensures ∙ sym c.deref-2.ensures.value) ∙ sym c.cells_cause.ensures ∙ c.in-None.is in
    subst (λ f. Answers argument_in (λ r. after_names f l ≡ r) c.argument_of.result) (sym both) c.argument_of.ensures
