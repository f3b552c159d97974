-- The verdict on a lambda from what its checks find.
use Rattle.std.proofs.Common.{◌≡◌, ℕ, ◌<◌, ◌≤◌, min, nat_lt, true, false, List, [], refl, sym, ap, ◌∙◌, append-nil}
use Rattle.std.proofs.Common.{arith, Err}
use Rattle.std.proofs.lemmas.Grind.{common_steps}
use Rattle.lambda_expr.specs.declared.check.Summary.{Summary}
use Rattle.lambda_expr.specs.declared.fault.ReadFault.TheVariants as fault
use Rattle.lambda_expr.specs.declared.want.Want.{Want}
use Rattle.lambda_values.specs.declared.lambda.PairForm.{PairForm}
use Rattle.lambda_expr.specs.declared.step.ParseStep.{ParseStep}
use Rattle.lambda_expr.specs.Checks.{depth, fit, literals, names_known}
use Rattle.lambda_expr.specs.Elaborating.{top_typed, typed_steps}
use Rattle.lambda_expr.specs.Grammar.{Shape, postfix}
use Rattle.lambda_expr.specs.Heads.{parameters}
use Rattle.lambda_expr.specs.Lexemes.{Names}
use Rattle.lambda_expr.specs.PairForms.{form, whole_form}
use Rattle.lambda_expr.specs.Refusals.{expression_verdict, wanted}
use Rattle.lambda_expr.specs.Summaries.{summary, summary_steps, top_summary}
use Rattle.lambda_expr.specs.Typing.{Typed, typed}
use Rattle.lambda_expr.proofs.ElaborateLemmas as elaborate
use Rattle.lambda_expr.proofs.SummaryLemmas as check

pub summary_is : (p : ℕ) (e : Shape) (steps : List ParseStep) (s : Summary) → steps ≡ postfix e
    → s ≡ top_summary (summary_steps p [] steps) → s ≡ summary p e
summary_is p e steps s is found = found ∙ ap (λ v. top_summary (summary_steps p [] v))
    (is ∙ sym (append-nil (postfix e))) ∙ ap top_summary (check.by_steps p e [] [])

pub typed_is : (p : Names) (e : Shape) (steps : List ParseStep) (t : Typed) → steps ≡ postfix e
    → t ≡ top_typed (typed_steps p [] steps) → t ≡ typed p e
typed_is p e steps t is found = found ∙ ap (λ v. top_typed (typed_steps p [] v)) (is ∙ sym (append-nil (postfix e)))
    ∙ ap top_typed (elaborate.by_steps p e [] [])

deep : (n : ℕ) → 64 < min n 65 → nat_lt 64 n ≡ true
deep n h = let k : 64 < n = omega arith in grind (arith, common_steps)

flat : (n : ℕ) → (64 < min n 65 → ⊥) → nat_lt 64 n ≡ false
flat n h = let k : n ≤ 64 = omega arith in grind (arith, common_steps)

pub too_large : (w : Want) (p : Names) (e : Shape) (s : Summary) → s ≡ summary (parameters w) e → fit s.literals ≡ false
    → expression_verdict w p e ≡ Err fault.LiteralTooLarge
too_large w p e s is off = let h : fit (literals e) ≡ false = ap (λ (s : Summary). fit s.literals) (sym is) ∙ off in
    rw h refl

pub too_deep : (w : Want) (p : Names) (e : Shape) (s : Summary) → s ≡ summary (parameters w) e → fit s.literals ≡ true
    → 64 < s.depth → expression_verdict w p e ≡ Err fault.TooDeep
too_deep w p e s is on more =
    let h : fit (literals e) ≡ true = ap (λ (s : Summary). fit s.literals) (sym is) ∙ on in
    let same : s.depth ≡ min (depth e) 65 = ap (λ (s : Summary). s.depth) is in
    let k : nat_lt 64 (depth e) ≡ true = deep (depth e) (omega arith) in
    rw (h, k) refl

pub unknown : (w : Want) (p : Names) (e : Shape) (s : Summary) → s ≡ summary (parameters w) e → fit s.literals ≡ true
    → (64 < s.depth → ⊥) → s.known ≡ false → expression_verdict w p e ≡ Err fault.UnknownName
unknown w p e s is on less off =
    let h : fit (literals e) ≡ true = ap (λ (s : Summary). fit s.literals) (sym is) ∙ on in
    let same : s.depth ≡ min (depth e) 65 = ap (λ (s : Summary). s.depth) is in
    let k : nat_lt 64 (depth e) ≡ false = flat (depth e) (λ more. less (omega arith)) in
    let n : names_known (parameters w) e ≡ false = ap (λ (s : Summary). s.known) (sym is) ∙ off in
    rw (h, k, n) refl

pub by_type : (w : Want) (p : Names) (e : Shape) (s : Summary) (t : Typed) (f : PairForm) → s ≡ summary (parameters w) e
    → fit s.literals ≡ true → (64 < s.depth → ⊥) → s.known ≡ true → t ≡ typed p e → f ≡ whole_form s.form
    → expression_verdict w p e ≡ wanted w t f
by_type w p e s t f is on less known type same_form =
    let h : fit (literals e) ≡ true = ap (λ (s : Summary). fit s.literals) (sym is) ∙ on in
    let same : s.depth ≡ min (depth e) 65 = ap (λ (s : Summary). s.depth) is in
    let k : nat_lt 64 (depth e) ≡ false = flat (depth e) (λ more. less (omega arith)) in
    let n : names_known (parameters w) e ≡ true = ap (λ (s : Summary). s.known) (sym is) ∙ known in
    let g : f ≡ whole_form (form e) = same_form ∙ ap (λ (s : Summary). whole_form s.form) is in
    rw (h, k, n) (ap (λ t. wanted w t (whole_form (form e))) (sym type) ∙ ap (wanted w t) (sym g))
