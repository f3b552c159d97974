use Rattle.std.proofs.Common.{◌≡◌, length, Ok, Err, refl, sym, ap, subst, ◌∙◌, arith}
use Rattle.std.proofs.lemmas.Result.{err_from_is_err_and}
use Rattle.job_language.specs.Table.{role_of}
use Rattle.lambda_expr.specs.CodeWords.{words_in}
use Rattle.job_language.specs.Scopes.{scope_of}
use Rattle.job_language.specs.Shapes.{placed_in}
use Rattle.job_language.specs.Causes.{stage_cause}
use Rattle.job_language.specs.Verdicts.{IsReadInTurn}
use Rattle.job_language.specs.Parts.{part_in, begun_of}
use Rattle.job_language.proofs.CallTurnLemmas.{length_stages, next_read, next_refused}
use Rattle.job_language.proofs.parts.read_next_call.Goals as goal

pub returns-in-Some : goal.returns-in-Some
returns-in-Some c = λ other.
    let s = scope_of c.args.scope in
    let t = c.args.text.now in
    let x = c.args.call.now in
    let k = placed_in (words_in c.args.text.now) x in
    let job = c.args.job.now in
    let count : c.len.result ≡ length job.stages.items = omega (arith, c.len.ensures, job.stages.ok.0) in
    let cause = sym c.in-Some.is ∙ c.stage_cause.ensures ∙ ap (stage_cause c.len.result) c.role_of.ensures
    ∙ ap (λ n. stage_cause n (role_of x.operation)) (count ∙ sym (length_stages job.stages.items)) in
    next_refused (begun_of job) s t k c.in-Some.cause
    (subst (λ f. IsReadInTurn f s t k (Err c.in-Some.cause)) cause refl)

pub returns-in_err-part : goal.returns-in_err-part
returns-in_err-part c =
    let s = scope_of c.args.scope in
    let t = c.args.text.now in
    let x = c.args.call.now in
    let k = placed_in (words_in c.args.text.now) x in
    let job = c.args.job.now in
    let p = err_from_is_err_and c.from_residual.result c.from_residual.ensures.1 in
    let count : c.len.result ≡ length job.stages.items = omega (arith, c.len.ensures, job.stages.ok.0) in
    let none = sym c.in_default.is ∙ c.stage_cause.ensures ∙ ap (stage_cause c.len.result) c.role_of.ensures
    ∙ ap (λ n. stage_cause n (role_of x.operation)) (count ∙ sym (length_stages job.stages.items)) in
    rw (p.1, p.2) (λ other. next_refused (begun_of job) s t k c.in_err-part.field-0.0
    (subst (λ f. IsReadInTurn f s t k (Err c.in_err-part.field-0.0)) none (c.in_err-part.ensures other)))

pub returns : goal.returns
returns c =
    let s = scope_of c.args.scope in
    let t = c.args.text.now in
    let x = c.args.call.now in
    let k = placed_in (words_in c.args.text.now) x in
    let job = c.args.job.now in
    let g = part_in c.in_ok-part.part in
    let count : c.len.result ≡ length job.stages.items = omega (arith, c.len.ensures, job.stages.ok.0) in
    let none = sym c.in_default.is ∙ c.stage_cause.ensures ∙ ap (stage_cause c.len.result) c.role_of.ensures
    ∙ ap (λ n. stage_cause n (role_of x.operation)) (count ∙ sym (length_stages job.stages.items)) in
    next_read (begun_of job) s t k g c.below_terminal.result
    (subst (λ f. IsReadInTurn f s t k (Ok g)) none c.in_ok-part.ensures) c.below_terminal.ensures
