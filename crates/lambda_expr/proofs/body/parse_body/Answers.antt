use Rattle.lambda_expr.specs.Heads.{expression}
use Rattle.lambda_expr.proofs.Bodies.{plain_body, plain_of, plain_stop}
use Rattle.lambda_expr.proofs.body.parse_body.Goals as goal

pub returns-in-Ok : goal.returns-in-Ok
returns-in-Ok c =
    let a = c.in-Ok.ensures.ok in
    record {
      ok = (
        expression a.0,
        plain_body c.args.want c.args.words.now a.0
            (plain_of c.args.want c.in_default.not-Stream) a.1,
        a.2,
      );
      stops = tt;
    }

pub returns-in-Err : goal.returns-in-Err
returns-in-Err c = record {
  ok = tt;
  stops =
      plain_stop c.args.want c.args.words.now c.in-Err.stop (plain_of c.args.want c.in_default.not-Stream)
      c.in-Err.ensures.stops;
}
