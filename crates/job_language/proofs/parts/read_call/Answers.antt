use Rattle.std.proofs.lemmas.Result.{err_from_is_err_and}
use Rattle.lambda_expr.specs.CodeWords.{words_in}
use Rattle.job_language.specs.Scopes.{scope_of}
use Rattle.job_language.specs.Shapes.{placed_in}
use Rattle.job_language.specs.Parts.{argument_in}
use Rattle.job_language.proofs.CallTurnLemmas.{early, late, whole}
use Rattle.job_language.proofs.parts.read_call.Goals as goal

pub returns-in_err-numbers : goal.returns-in_err-numbers
returns-in_err-numbers c =
    let k = placed_in (words_in c.args.text.now) c.args.call.now in
    let p = err_from_is_err_and c.from_residual.result c.from_residual.ensures.1 in
    rw (p.1, p.2) (λ other. early (scope_of c.args.scope) c.args.text.now k c.in_err-numbers.field-0.0
    (c.in_err-numbers.ensures.refused other))

pub returns-in_err-last : goal.returns-in_err-last
returns-in_err-last c =
    let k = placed_in (words_in c.args.text.now) c.args.call.now in
    let p = err_from_is_err_and c.from_residual-in_err-last.result c.from_residual-in_err-last.ensures.1 in
    rw (p.1, p.2) (λ other. late (scope_of c.args.scope) c.args.text.now k c.in_err-last.field-0.0
    c.in_ok-numbers.ensures.ok.0 (c.in_err-last.ensures other))

pub returns : goal.returns
returns c =
    let k = placed_in (words_in c.args.text.now) c.args.call.now in
    whole (scope_of c.args.scope) c.args.text.now k c.in_ok-numbers.numbers.items (argument_in c.in_ok-last.last)
    c.built.result c.in_ok-numbers.ensures.ok.0 c.in_ok-numbers.ensures.ok.1 c.in_ok-last.ensures c.built.ensures
