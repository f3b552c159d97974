-- Lambdas and the names in them.
use Rattle.std.proofs.Common.{◌≡◌, ℕ, ◌+◌, ◌<◌, ◌≤◌, List, ◌∷◌, length, drop, get_or, Some, None, Result, Ok, Err, ap}
use Rattle.std.proofs.Common.{◌∙◌}
use Rattle.std.proofs.lemmas.List.{drop_more, drop_all}
use Rattle.tables.specs.Table.{cells_named}
use Rattle.lambda_values.specs.Cells.{cells_of}
use Rattle.lambda_values.specs.Lambda.{AbstractLambda}
use Rattle.lambda_values.specs.References.{names_of}
use Rattle.lambda_expr.specs.Refusals.{Judged}
use Rattle.lambda_expr.specs.declared.want.Want.{Want}
use Rattle.job_language.specs.declared.argument.Argument as code
use Rattle.job_language.specs.declared.fault.Cause.{Cause}
use Rattle.job_language.specs.Causes.{Scope, given, first_cause}
use Rattle.job_language.specs.Arguments.{cell_cause, cell_causes, reference_cause, reference_causes, named_causes}
use Rattle.job_language.specs.Arguments.{lambda_answer, reads_cells, IsLambdaRead}
use Rattle.job_language.specs.Parts.{argument_in, Answers}
use Rattle.job_language.proofs.CauseLemmas.{first_append, first_stays}

pub lambda_read : (s : Scope) (text : List ℕ) (w : Want) (l : AbstractLambda) (r : Result code.Argument Cause)
    → Judged (reads_cells s) text w (Ok l) → Answers argument_in (λ x. lambda_answer s (Ok l) ≡ x) r
    → Answers argument_in (IsLambdaRead s text w) r
lambda_read s text w l (Ok a) j h = (Ok l, j, h)
lambda_read s text w l (Err e) j h = λ other. (Ok l, j, h other)

-- the references from a place on
pub reference_here : (s : Scope) (ws : List (List ℕ)) (i : ℕ) (d : List ℕ) (c : Cause) → i < length ws
    → reference_cause (given s.jobs (get_or ws i d)) ≡ Some c → first_cause (reference_causes s (drop i ws)) ≡ Some c
reference_here s ws i d c lt h = ap (λ v. first_cause (reference_causes s v)) (drop_more ws i d lt)
    ∙ ap (λ o. first_cause (o ∷ reference_causes s (drop (i + 1) ws))) h

pub reference_more : (s : Scope) (ws : List (List ℕ)) (i : ℕ) (d : List ℕ) → i < length ws
    → reference_cause (given s.jobs (get_or ws i d)) ≡ None
    → first_cause (reference_causes s (drop i ws)) ≡ first_cause (reference_causes s (drop (i + 1) ws))
reference_more s ws i d lt h = ap (λ v. first_cause (reference_causes s v)) (drop_more ws i d lt)
    ∙ ap (λ o. first_cause (o ∷ reference_causes s (drop (i + 1) ws))) h

pub no_references : (s : Scope) (ws : List (List ℕ)) (i : ℕ) → length ws ≤ i
    → first_cause (reference_causes s (drop i ws)) ≡ None
no_references s ws i far = ap (λ v. first_cause (reference_causes s v)) (drop_all i ws far)

-- the cells from a place on
pub cell_here : (s : Scope) (ws : List (List ℕ)) (i : ℕ) (d : List ℕ) (c : Cause) → i < length ws
    → cell_cause s.rows (cells_named (get_or ws i d) s.columns) ≡ Some c
    → first_cause (cell_causes s (drop i ws)) ≡ Some c
cell_here s ws i d c lt h = ap (λ v. first_cause (cell_causes s v)) (drop_more ws i d lt)
    ∙ ap (λ o. first_cause (o ∷ cell_causes s (drop (i + 1) ws))) h

pub cell_more : (s : Scope) (ws : List (List ℕ)) (i : ℕ) (d : List ℕ) → i < length ws
    → cell_cause s.rows (cells_named (get_or ws i d) s.columns) ≡ None
    → first_cause (cell_causes s (drop i ws)) ≡ first_cause (cell_causes s (drop (i + 1) ws))
cell_more s ws i d lt h = ap (λ v. first_cause (cell_causes s v)) (drop_more ws i d lt)
    ∙ ap (λ o. first_cause (o ∷ cell_causes s (drop (i + 1) ws))) h

pub no_cells : (s : Scope) (ws : List (List ℕ)) (i : ℕ) → length ws ≤ i → first_cause (cell_causes s (drop i ws)) ≡ None
no_cells s ws i far = ap (λ v. first_cause (cell_causes s v)) (drop_all i ws far)

-- the names in a lambda: a cause of the references, or else the first cause of the cells
pub by_references : (s : Scope) (l : AbstractLambda) (c : Cause)
    → first_cause (reference_causes s (names_of l)) ≡ Some c → first_cause (named_causes s l) ≡ Some c
by_references s l c h = first_stays (reference_causes s (names_of l)) (cell_causes s (cells_of l)) c h

pub by_cells : (s : Scope) (l : AbstractLambda) → first_cause (reference_causes s (names_of l)) ≡ None
    → first_cause (named_causes s l) ≡ first_cause (cell_causes s (cells_of l))
by_cells s l h = first_append (reference_causes s (names_of l)) (cell_causes s (cells_of l)) h
