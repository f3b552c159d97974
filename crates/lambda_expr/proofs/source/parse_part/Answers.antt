use Rattle.std.proofs.Common.{◌≡◌, ◌<◌, ◌≤◌, ℕ, List, Result, subst, sym, take}
use Rattle.std.specs.Prelude.{IfErr}
use Rattle.lambda_expr.specs.declared.lexeme.Lexeme.{Lexeme}
use Rattle.lambda_expr.specs.declared.parse.ParseStop.{ParseStop}
use Rattle.lambda_expr.specs.declared.parse.ParseStop.TheVariants.{At}
use Rattle.lambda_expr.specs.declared.source.SourceOperand.{SourceOperand}
use Rattle.lambda_expr.specs.SourceReading.{IsNoNext, Next}
use Rattle.lambda_expr.specs.Codes.{IsStop}
use Rattle.lambda_expr.specs.Grammar.{Expression}
use Rattle.lambda_expr.specs.Stops.{StopsAt}
use Rattle.lambda_expr.proofs.OperandLemmas.{no_end, no_front, only_one}
use Rattle.lambda_expr.proofs.source.parse_part.Goals.{in-Ok, in-Err-NoMemory, in-Err-At+else-end-count+in-Ok-parse}
use Rattle.lambda_expr.proofs.source.parse_part.Goals.{in-Err-At+else-end-count+in-Err-NoMemory-parse}
use Rattle.lambda_expr.proofs.source.parse_part.Goals.{in-Err-At+else-end-count+in-Err-At-parse}
use Rattle.lambda_expr.proofs.source.parse_part.Goals as goal

answered : (ws : List Lexeme) (r q : Result SourceOperand ParseStop) → r ≡ q → IfErr q (λ stop. IsNoNext ws stop)
    → IfErr r (λ stop. IsNoNext ws stop)
answered ws r q is h = subst (λ r. IfErr r (λ stop. IsNoNext ws stop)) (sym is) h

stopping : (ws : List Lexeme) (stop : ParseStop) (n : ℕ) → IsStop Expression ws stop → stop ≡ At n
    → StopsAt Expression ws n
stopping ws stop n h is = subst (IsStop Expression ws) is h

pub returns-then-end-count-clause-stops : goal.returns-then-end-count-clause-stops
returns-then-end-count-clause-stops c = λ s n t. subst (StopsAt (Next s n) c.args.words.now) (sym c.len-count.ensures)
    (no_end c.args.words.now c.in-Err-At.end s n t
    (subst (λ k. k ≤ c.in-Err-At.end) c.len-count.ensures c.if-end-count.true)
    (subst (IsStop Expression c.args.words.now) c.in-Err-At.field-0-is c.in-Err-At.ensures.stops))

pub returns-clause-stops : goal.returns-clause-stops
returns-clause-stops c = elim c.match-parse.branch [
  | in-Ok w ↦ answered c.args.words.now c.match-parse.result _ w.result-is
      (λ s n t. subst (StopsAt (Next s n) c.args.words.now) (sym c.len-count.ensures)
      (only_one c.args.words.now w.in-Ok.ensures.ok.0 s n t w.in-Ok.ensures.ok.1))
  | in-Err-NoMemory w ↦ answered c.args.words.now c.match-parse.result _ w.result-is tt
  | in-Err-At+else-end-count+in-Ok-parse w ↦ answered c.args.words.now c.match-parse.result _ w.result-is tt
  | in-Err-At+else-end-count+in-Err-NoMemory-parse w ↦ answered c.args.words.now c.match-parse.result _ w.result-is tt
  | in-Err-At+else-end-count+in-Err-At-parse w ↦
      answered c.args.words.now c.match-parse.result _ w.result-is
      (λ s n t. no_front c.args.words.now w.in-Err-At.end s n t
      (subst (λ k. w.in-Err-At.end < k) c.len-count.ensures w.if-end-count.false)
      (stopping c.args.words.now _ _ w.in-Err-At.ensures.stops w.in-Err-At.field-0-is)
      (stopping (take w.in-Err-At.end c.args.words.now) _ _
      (subst (λ v. IsStop Expression v w.in-Err-At-parse.field-0) w.before-in-Err-At.ensures
      w.in-Err-At-parse.ensures.stops) w.in-Err-At-parse.field-0-is).outside)
]
