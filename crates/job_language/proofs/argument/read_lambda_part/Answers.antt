use Rattle.std.proofs.lemmas.Result.{err_from_is_err_and}
use Rattle.lambda_values.specs.Lambda.{body_of}
use Rattle.job_language.specs.Scopes.{scope_of}
use Rattle.job_language.proofs.CollectedPartLemmas.{lambda_refused}
use Rattle.job_language.proofs.ReferenceLemmas.{lambda_read}
use Rattle.job_language.proofs.argument.read_lambda_part.Goals as goal

pub returns-in_err-lambda : goal.returns-in_err-lambda
returns-in_err-lambda c =
    let p = err_from_is_err_and c.from_residual.result c.from_residual.ensures.1 in
    rw p.1 (λ other. lambda_refused (scope_of c.args.scope) c.args.text.now.bytes c.args.want c.in_err-lambda.field-0.0
    p.0 c.in_err-lambda.ensures.refused p.2 other)

pub returns : goal.returns
returns c = lambda_read (scope_of c.args.scope) c.args.text.now.bytes c.args.want (body_of c.in_ok-lambda.lambda.body)
    c.checked.result c.in_ok-lambda.ensures.ok c.checked.ensures
