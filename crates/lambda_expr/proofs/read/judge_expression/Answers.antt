use Rattle.std.proofs.Common.{◌≡◌, ◌∙◌, [], ap, arith, Bool, false, not, refl, sym, subst, true}
use Rattle.lambda_expr.specs.Checks.{fit}
use Rattle.lambda_expr.specs.declared.fault.ReadFault.{ReadFault}
use Rattle.lambda_expr.specs.declared.fault.ReadFault.TheVariants as fault
use Rattle.lambda_values.specs.declared.lambda.Lambda.{Lambda}
use Rattle.lambda_values.specs.declared.lambda.PairForm.{PairForm}
use Rattle.lambda_expr.specs.declared.want.Want.{Want}
use Rattle.lambda_expr.specs.Elaborating.{typed_of}
use Rattle.lambda_expr.specs.Heads.{parameters}
use Rattle.lambda_expr.specs.Judging.{IsJudged}
use Rattle.lambda_expr.specs.Lexemes.{names_in}
use Rattle.lambda_values.specs.Lambda.{AbstractLambda, body_of}
use Rattle.lambda_expr.specs.Refusals.{wanted}
use Rattle.lambda_expr.specs.Summaries.{summary_steps, top_summary}
use Rattle.lambda_expr.specs.Typing.{Typed}
use Rattle.std.specs.Prelude.{Err, IfErr, IfOk, Ok, Result}
use Rattle.lambda_expr.proofs.JudgeLemmas.{by_type, summary_is, too_deep, too_large, typed_is, unknown}
use Rattle.lambda_expr.proofs.read.judge_expression.Goals as goal

not_true : (b : Bool) → not b ≡ true → b ≡ false
not_true true h = absurd cc
not_true false h = refl

not_false : (b : Bool) → not b ≡ false → b ≡ true
not_false true h = refl
not_false false h = absurd cc

pub returns-then-not-fit : goal.returns-then-not-fit
returns-then-not-fit c = λ e is.
    let w = c.args.want in
    let h = names_in c.args.text.now.bytes c.args.text.now.tokens in
    let s = c.in_ok-summary.summary in
    let found : s ≡ top_summary (summary_steps (parameters w) [] c.args.steps.now) =
    c.in_ok-summary.ensures ∙ ap (λ n. top_summary (summary_steps n [] c.args.steps.now)) c.parameters.ensures in
    let same = summary_is (parameters w) e c.args.steps.now s is found in
    let off : fit s.literals ≡ false = sym c.fit.ensures ∙ c.if-not-fit.true in
    too_large w h e s same off

pub returns-then-summary-gt-MAX_DEPTH : goal.returns-then-summary-gt-MAX_DEPTH
returns-then-summary-gt-MAX_DEPTH c = λ e is.
    let w = c.args.want in
    let h = names_in c.args.text.now.bytes c.args.text.now.tokens in
    let s = c.in_ok-summary.summary in
    let found : s ≡ top_summary (summary_steps (parameters w) [] c.args.steps.now) =
    c.in_ok-summary.ensures ∙ ap (λ n. top_summary (summary_steps n [] c.args.steps.now)) c.parameters.ensures in
    let same = summary_is (parameters w) e c.args.steps.now s is found in
    let on : fit s.literals ≡ true = sym c.fit.ensures ∙ c.if-not-fit.false in
    too_deep w h e s same on c.if-summary-gt-MAX_DEPTH.true

pub returns-then-not-summary : goal.returns-then-not-summary
returns-then-not-summary c = λ e is.
    let w = c.args.want in
    let h = names_in c.args.text.now.bytes c.args.text.now.tokens in
    let s = c.in_ok-summary.summary in
    let found : s ≡ top_summary (summary_steps (parameters w) [] c.args.steps.now) =
    c.in_ok-summary.ensures ∙ ap (λ n. top_summary (summary_steps n [] c.args.steps.now)) c.parameters.ensures in
    let same = summary_is (parameters w) e c.args.steps.now s is found in
    let on : fit s.literals ≡ true = sym c.fit.ensures ∙ c.if-not-fit.false in
    unknown w h e s same on (λ more. let low = c.if-summary-gt-MAX_DEPTH.false in omega arith)
    (not_true s.known c.if-not-summary.true)

answered : (v : Result AbstractLambda ReadFault) (w : Want) (t : Typed) (f : PairForm) (r : Result Lambda ReadFault)
    → v ≡ wanted w t f → IfOk r (λ l. wanted w t f ≡ Ok (body_of l.body))
    → IfErr r (λ k. (k ≡ fault.WrongType) × (wanted w t f ≡ Err fault.WrongType)) → IsJudged v r
answered v w t f (Ok l) same ok refused = same ∙ ok
answered v w t f (Err k) same ok refused = subst (λ k. IsJudged v (Err k)) (sym refused.0) (same ∙ refused.1)

pub returns : goal.returns
returns c = λ e is.
    let w = c.args.want in
    let h = names_in c.args.text.now.bytes c.args.text.now.tokens in
    let s = c.in_ok-summary.summary in
    let found : s ≡ top_summary (summary_steps (parameters w) [] c.args.steps.now) =
    c.in_ok-summary.ensures ∙ ap (λ n. top_summary (summary_steps n [] c.args.steps.now)) c.parameters.ensures in
    let same = summary_is (parameters w) e c.args.steps.now s is found in
    let on : fit s.literals ≡ true = sym c.fit.ensures ∙ c.if-not-fit.false in
    let t = typed_of c.in_ok-operand.operand in
    let type = typed_is h e c.args.steps.now t is c.in_ok-operand.ensures in
    answered _ w t c.whole.result c.wanted.result
    (by_type w h e s t c.whole.result same on (λ more. let low = c.if-summary-gt-MAX_DEPTH.false in omega arith)
    (not_false s.known c.if-not-summary.false) type c.whole.ensures) c.wanted.ensures.ok c.wanted.ensures.refused
