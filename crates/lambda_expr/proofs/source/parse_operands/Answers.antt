use Rattle.std.proofs.Common.{◌≡◌, ◌<◌, List, [], ◌∷◌, length, drop, get_or, length-drop, rules, subst, sym, Result, Ok}
use Rattle.std.proofs.Common.{Err, arith}
use Rattle.std.specs.Prelude.{IfErr}
use Rattle.std.specs.Global.{Vec}
use Rattle.lambda_expr.specs.declared.lexeme.Lexeme.{Lexeme}
use Rattle.lambda_expr.specs.declared.lexeme.Lexeme.TheVariants as word
use Rattle.lambda_expr.specs.declared.parse.ParseStop.{ParseStop}
use Rattle.lambda_expr.specs.declared.parse.ParseStop.TheVariants.{At, NoMemory}
use Rattle.lambda_expr.specs.declared.source.StreamSource.{StreamSource}
use Rattle.lambda_expr.specs.declared.step.ParseStep.{ParseStep}
use Rattle.lambda_expr.specs.Codes.{IsStop}
use Rattle.lambda_expr.specs.SourceReading.{Next, Operands, TakesMore}
use Rattle.lambda_expr.specs.Sources.{Takes}
use Rattle.lambda_expr.specs.Stops.{StopsAt}
use Rattle.lambda_expr.proofs.EachBody.{IsNotClosed, closed_front, few_stop, late_stop, none_stop, not_closed}
use Rattle.lambda_expr.proofs.EachBody.{operands_stop}
use Rattle.lambda_expr.proofs.source.parse_operands.Goals as goal

late_by : (s : StreamSource) (ws : List Lexeme) → Takes s 0 → 0 < length ws → StopsAt (Operands s) (word.Close ∷ ws) 1
late_by s [] count lt = absurd (omega arith)
late_by s (w ∷ ws) count lt = late_stop s w ws count

lifted : (s : StreamSource) (ws : List Lexeme) (r : Result (Vec (Vec ParseStep)) ParseStop) → IsNotClosed ws
    → IfErr r (λ stop. IsStop (Next s 0) ws stop) → IfErr r (λ stop. IsStop (Operands s) ws stop)
lifted s ws (Ok v) never h = tt
lifted s ws (Err (At n)) never h = operands_stop s ws n never h
lifted s ws (Err NoMemory) never h = tt

pub returns-then-not-takes-clause-stops : goal.returns-then-not-takes-clause-stops
returns-then-not-takes-clause-stops c =
    let s = c.args.source in
    let ws = c.args.words.now in
    let front : get_or ws 0 word.Other ≡ word.Close = search rules in
    let never : Takes s 0 → ⊥ = search rules in
    subst (λ v. StopsAt (Operands s) v 0) (sym (closed_front ws front)) (few_stop s (drop 1 ws) never)

pub returns-then-len-gt1-clause-stops : goal.returns-then-len-gt1-clause-stops
returns-then-len-gt1-clause-stops c =
    let s = c.args.source in
    let ws = c.args.words.now in
    let front : get_or ws 0 word.Other ≡ word.Close = search rules in
    let count : Takes s 0 = search rules in
    let lt : 0 < length (drop 1 ws) = omega (arith, length-drop 1 ws, c.len.ensures, c.if-len-gt1.true) in
    subst (λ v. StopsAt (Operands s) v 1) (sym (closed_front ws front)) (late_by s (drop 1 ws) count lt)

pub returns-then-not-takes_more-clause-stops : goal.returns-then-not-takes_more-clause-stops
returns-then-not-takes_more-clause-stops c =
    let s = c.args.source in
    let ws = c.args.words.now in
    let front : get_or ws 0 word.Other ≡ word.Close → ⊥ = search rules in
    let never : TakesMore s 0 → ⊥ = search rules in
    none_stop s ws (not_closed ws front) never

pub returns-clause-stops : goal.returns-clause-stops
returns-clause-stops c =
    let ws = c.args.words.now in
    let front : get_or ws 0 word.Other ≡ word.Close → ⊥ = search rules in
    lifted c.args.source ws c.parse_parts.result (not_closed ws front) c.parse_parts.ensures.stops
