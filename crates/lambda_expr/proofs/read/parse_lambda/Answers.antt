use Rattle.std.proofs.Common.{drop, subst}
use Rattle.lambda_expr.specs.BodyReading.{IsBodyOf}
use Rattle.lambda_expr.specs.Codes.{IsStop}
use Rattle.lambda_expr.specs.Heads.{ABody}
use Rattle.lambda_expr.specs.Stops.{StopsAt}
use Rattle.lambda_expr.proofs.Lambdas.{lambda_of, stops_in_body, stops_in_head}
use Rattle.lambda_expr.proofs.read.parse_lambda.Goals as goal

pub returns-in-Ok-parse_body-clause-ok : goal.returns-in-Ok-parse_body-clause-ok
returns-in-Ok-parse_body-clause-ok c =
    let w = c.args.want in
    let ws = c.args.words.now in
    let n = c.in-Ok.count in
    let a : IsBodyOf w (drop n ws) c.in-Ok-parse_body.body =
    subst (λ v. IsBodyOf w v c.in-Ok-parse_body.body) c.after.ensures.lexemes c.in-Ok-parse_body.ensures.ok in
    (a.0, lambda_of w ws c.parse_head.result n a.0 c.parse_head.ensures c.in-Ok.is a.1, a.2)

pub returns-in-Err-At-clause-stops : goal.returns-in-Err-At-clause-stops
returns-in-Err-At-clause-stops c =
    let w = c.args.want in
    let ws = c.args.words.now in
    let n = c.in-Ok.count in
    let stop : IsStop (ABody w) (drop n ws) c.in-Err-At.field-0 =
    subst (λ v. IsStop (ABody w) v c.in-Err-At.field-0) c.after.ensures.lexemes c.in-Err-At.ensures.stops in
    let stops : StopsAt (ABody w) (drop n ws) c.in-Err-At.place =
    subst (IsStop (ABody w) (drop n ws)) c.in-Err-At.field-0-is stop in
    stops_in_body w ws c.parse_head.result n c.in-Err-At.place c.parse_head.ensures c.in-Ok.is stops

pub returns-in-Err-clause-stops : goal.returns-in-Err-clause-stops
returns-in-Err-clause-stops c = stops_in_head c.args.want c.args.words.now c.parse_head.result c.in-Err.place
    c.parse_head.ensures c.in-Err.is
