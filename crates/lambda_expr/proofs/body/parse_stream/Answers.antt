use Rattle.std.proofs.Common.{◌≡◌, Ok, drop, refl, subst, sym, ◌∙◌}
use Rattle.lambda_expr.specs.Codes.{IsStop}
use Rattle.lambda_expr.specs.Heads.{operands}
use Rattle.lambda_expr.specs.SourceReading.{ArePosted, Operands, stream_at}
use Rattle.lambda_expr.specs.Stops.{StopsAt}
use Rattle.lambda_expr.proofs.Bodies.{stops_in_front, stops_in_operands}
use Rattle.lambda_expr.proofs.OneStream.{stream_ok}
use Rattle.lambda_expr.proofs.body.parse_stream.Goals as goal

pub returns-in-Ok-parse_operands-clause-ok : goal.returns-in-Ok-parse_operands-clause-ok
returns-in-Ok-parse_operands-clause-ok c =
    let ws = c.args.words.now in
    let o = c.in-Ok.opened in
    let vs = c.in-Ok-parse_operands.operands in
    let is : stream_at ws ≡ Ok o = sym c.parse_source.ensures ∙ c.in-Ok.is in
    let a : ArePosted o.source (drop o.count ws) vs.items =
    subst (λ v. ArePosted o.source v vs.items) c.after.ensures.lexemes c.in-Ok-parse_operands.ensures.ok in
    (operands o.source a.0, stream_ok ws o a.0 is a.1, (refl, a.1.count, a.2))

pub returns-in-Err-At-clause-stops : goal.returns-in-Err-At-clause-stops
returns-in-Err-At-clause-stops c =
    let ws = c.args.words.now in
    let o = c.in-Ok.opened in
    let is : stream_at ws ≡ Ok o = sym c.parse_source.ensures ∙ c.in-Ok.is in
    let stop : IsStop (Operands o.source) (drop o.count ws) c.in-Err-At.field-0 =
    subst (λ v. IsStop (Operands o.source) v c.in-Err-At.field-0) c.after.ensures.lexemes
    c.in-Err-At.ensures.stops in
    let stops : StopsAt (Operands o.source) (drop o.count ws) c.in-Err-At.place =
    subst (IsStop (Operands o.source) (drop o.count ws)) c.in-Err-At.field-0-is stop in
    stops_in_operands ws o c.in-Err-At.place is stops

pub returns-in-Err-clause-stops : goal.returns-in-Err-clause-stops
returns-in-Err-clause-stops c = stops_in_front c.args.words.now c.in-Err.place
    (sym c.parse_source.ensures ∙ c.in-Err.is)
