-- What the checks find in an expression, from its steps.
use Rattle.std.proofs.Common.{◌≡◌, ℕ, suc, max, min, Bool, true, false, List, [], ◌∷◌, ◌++◌, refl, ap, ◌∙◌}
use Rattle.std.proofs.Common.{append_assoc, arith}
use Rattle.std.specs.Prelude.{if◌then◌else◌}
use Rattle.lambda_expr.specs.declared.check.Literals.{Literals}
use Rattle.lambda_expr.specs.declared.check.Summary.{Summary}
use Rattle.lambda_expr.specs.declared.check.BodyForm.{BodyForm}
use Rattle.lambda_expr.specs.declared.step.ParseStep.{ParseStep}
use Rattle.lambda_expr.specs.declared.step.ParseStep.TheVariants as step
use Rattle.lambda_expr.specs.Checks.{depth, is_comma}
use Rattle.lambda_expr.specs.Grammar.{Shape, prefix, binary, ternary, enclosed, postfix}
use Rattle.lambda_expr.specs.Summaries.{binary_summary, deeper, enclosed_summary, prefix_summary, summary, summary_step}
use Rattle.lambda_expr.specs.Summaries.{summary_steps, ternary_summary}

pub summary_append : (p : ℕ) (ss : List Summary) (xs : List ParseStep) (x : ParseStep)
    → summary_steps p ss (xs ++ x ∷ []) ≡ summary_step p x (summary_steps p ss xs)
summary_append p ss [] x = refl
summary_append p ss (y ∷ xs) x = summary_append p (summary_step p y ss) xs x

abbrev with_depth : Literals → Bool → BodyForm → ℕ → Summary
with_depth l k f n = record { literals = l; depth = n; known = k; form = f }

cut_depth : (b : Bool) (m n : ℕ) → (if b then max (min m 65) (min n 65) else deeper (max (min m 65) (min n 65)))
    ≡ min (if b then max m n else suc (max m n)) 65
cut_depth true m n = omega arith
cut_depth false m n = omega arith

cut_prefix : (p : ℕ) (s : _) (a : Shape) → prefix_summary s (summary p a) ≡ summary p (prefix s a)
cut_prefix p s a = ap (with_depth _ _ _)
    (let e : min (suc (min (depth a) 65)) 65 ≡ min (suc (depth a)) 65 = omega arith in e)

cut_binary : (p : ℕ) (s : _) (a b : Shape) → binary_summary s (summary p a) (summary p b) ≡ summary p (binary s a b)
cut_binary p s a b = ap (with_depth _ _ _) (cut_depth (is_comma s) (depth a) (depth b))

cut_ternary : (p : ℕ) (c q r : Shape) → ternary_summary (summary p c) (summary p q) (summary p r)
    ≡ summary p (ternary c q r)
cut_ternary p c q r = ap (with_depth _ _ _)
    (let e : min (suc (max (min (depth c) 65) (max (min (depth q) 65) (min (depth r) 65)))) 65
    ≡ min (suc (max (depth c) (max (depth q) (depth r)))) 65 = omega arith in e)

cut_enclosed : (p : ℕ) (o : _) (a : Shape) → enclosed_summary o (summary p a) ≡ summary p (enclosed o a)
cut_enclosed p o a = ap (with_depth _ _ _)
    (let e : min (suc (min (depth a) 65)) 65 ≡ min (suc (depth a)) 65 = omega arith in e)

pub by_steps : (p : ℕ) (e : Shape) (ts : List Summary) (ss : List ParseStep)
    → summary_steps p ts (postfix e ++ ss) ≡ summary_steps p (summary p e ∷ ts) ss
by_steps p (prefix s a) ts ss = ap (summary_steps p ts) (append_assoc (postfix a) (step.Prefix s ∷ []) ss)
    ∙ by_steps p a ts (step.Prefix s ∷ ss) ∙ ap (λ v. summary_steps p (v ∷ ts) ss) (cut_prefix p s a)
by_steps p (binary s a b) ts ss =
    ap (summary_steps p ts) (append_assoc (postfix a) (postfix b ++ step.Binary s ∷ []) ss
    ∙ ap (λ v. postfix a ++ v) (append_assoc (postfix b) (step.Binary s ∷ []) ss))
    ∙ by_steps p a ts (postfix b ++ step.Binary s ∷ ss)
    ∙ by_steps p b (summary p a ∷ ts) (step.Binary s ∷ ss)
    ∙ ap (λ v. summary_steps p (v ∷ ts) ss) (cut_binary p s a b)
by_steps p (ternary c q r) ts ss =
    ap (summary_steps p ts) (append_assoc (postfix c) (postfix q ++ (postfix r ++ step.Ternary ∷ [])) ss
    ∙ ap (λ v. postfix c ++ v) (append_assoc (postfix q) (postfix r ++ step.Ternary ∷ []) ss
    ∙ ap (λ v. postfix q ++ v) (append_assoc (postfix r) (step.Ternary ∷ []) ss)))
    ∙ by_steps p c ts (postfix q ++ (postfix r ++ step.Ternary ∷ ss))
    ∙ by_steps p q (summary p c ∷ ts) (postfix r ++ step.Ternary ∷ ss)
    ∙ by_steps p r (summary p q ∷ summary p c ∷ ts) (step.Ternary ∷ ss)
    ∙ ap (λ v. summary_steps p (v ∷ ts) ss) (cut_ternary p c q r)
by_steps p (enclosed o a) ts ss = ap (summary_steps p ts) (append_assoc (postfix a) (step.Enclose o ∷ []) ss)
    ∙ by_steps p a ts (step.Enclose o ∷ ss) ∙ ap (λ v. summary_steps p (v ∷ ts) ss) (cut_enclosed p o a)
by_steps p x ts ss = refl
