-- The verdict on a lambda to a stream from what its checks find.
use Rattle.std.proofs.Common.{◌≡◌, ℕ, suc, ◌+◌, ◌<◌, ◌≤◌, max, min, nat_lt, Bool, true, false, List, [], ◌∷◌, ◌++◌}
use Rattle.std.proofs.Common.{length, drop, get_or, Option, Some, None, Err, refl, sym, ap, subst, ◌∙◌, append_assoc}
use Rattle.std.proofs.Common.{arith}
use Rattle.std.proofs.lemmas.List.{drop_more}
use Rattle.std.proofs.lemmas.Grind.{common_steps}
use Rattle.std.specs.Global.{Vec}
use Rattle.std.specs.Prelude.{◌&&◌}
use Rattle.lambda_values.specs.declared.expr.LongExpr.{LongExpr}
use Rattle.lambda_expr.specs.declared.fault.ReadFault.TheVariants as fault
use Rattle.lambda_expr.specs.declared.source.StreamSource.{StreamSource}
use Rattle.lambda_expr.specs.declared.step.ParseStep.{ParseStep}
use Rattle.lambda_expr.specs.declared.check.Summary.{Summary}
use Rattle.lambda_expr.specs.declared.sign.Sign.TheVariants.{Comma}
use Rattle.lambda_expr.specs.BodyReading.{after_numbers, found_in, no_operands, step_numbers}
use Rattle.lambda_expr.specs.Checks.{depth, fit, literals, names_known}
use Rattle.lambda_expr.specs.Elaborating.{top_typed, typed_steps}
use Rattle.lambda_expr.specs.Grammar.{Shape, postfix}
use Rattle.lambda_expr.specs.Lexemes.{Names}
use Rattle.lambda_expr.specs.Refusals.{stream_verdict, streamed}
use Rattle.lambda_expr.specs.SourceReading.{each_postfix, steps_of}
use Rattle.lambda_expr.specs.Summaries.{binary_summary, summary}
use Rattle.lambda_expr.specs.StreamChecks.{all_fit, all_known, and_number, deepest, numbers}
use Rattle.lambda_values.specs.Streams.{exprs_of}
use Rattle.lambda_values.specs.Term.{Long, long_of}
use Rattle.lambda_expr.specs.Typing.{Typed, long}
use Rattle.lambda_expr.proofs.JudgeLemmas.{summary_is, typed_is}

-- ---- what the checks find

both_true : (a : Bool) → a && true ≡ a
both_true true = refl
both_true false = refl

and_assoc : (a b c : Bool) → (a && b) && c ≡ a && (b && c)
and_assoc true b c = refl
and_assoc false b c = refl

-- what they find in operands
pub record AreFound (c : Summary) (es : List Shape) : Type 0 where
  pub fit : fit c.literals ≡ all_fit es
  pub depth : c.depth ≡ min (deepest es) 65
  pub known : c.known ≡ all_known 1 es

abbrev Found : Summary → Summary → List Shape → Type 0
Found c d es = (fit d.literals ≡ fit c.literals && all_fit es) × (d.depth ≡ max c.depth (min (deepest es) 65))
    × (d.known ≡ c.known && all_known 1 es)

found_by : (es : List Shape) (c : Summary) → Found c (found_in c (each_postfix es)) es
found_by [] c = (sym (both_true (fit c.literals)), omega arith, sym (both_true c.known))
found_by (e ∷ es) c =
    let is = ap (λ s. found_in (binary_summary Comma c s) (each_postfix es)) (summary_is 1 e (postfix e) _ refl refl) in
    let k = found_by es (binary_summary Comma c (summary 1 e)) in
    let deep : max (max c.depth (min (depth e) 65)) (min (deepest es) 65)
    ≡ max c.depth (min (max (depth e) (deepest es)) 65) = omega arith in (
      ap (λ (s : Summary). fit s.literals) is ∙ k.0 ∙ and_assoc (fit c.literals) (fit (literals e)) (all_fit es),
      ap (λ (s : Summary). s.depth) is ∙ k.1 ∙ deep,
      ap (λ (s : Summary). s.known) is ∙ k.2 ∙ and_assoc c.known (names_known 1 e) (all_known 1 es),
    )

-- what the checks of operands with these steps find
pub found_is : (vs : List (Vec ParseStep)) (es : List Shape) (c : Summary) → steps_of vs ≡ each_postfix es
    → c ≡ found_in no_operands (steps_of vs) → AreFound c es
found_is vs es c is found =
    let k = subst (λ d. Found no_operands d es) (sym (found ∙ ap (found_in no_operands) is))
    (found_by es no_operands) in
    record { fit = k.0; depth = omega (arith, k.1); known = k.2 }

-- ---- the numbers of operands

pub numbers_by : (h : Names) (es : List Shape) → step_numbers h (each_postfix es) ≡ numbers h es
numbers_by h [] = refl
numbers_by h (e ∷ es) = ap (λ t. and_number t (step_numbers h (each_postfix es))) (typed_is h e (postfix e) _ refl refl)
    ∙ ap (and_number _) (numbers_by h es)

and_length : (t : Typed) (o : Option (List Long)) (xs : List Long) (n : ℕ) → and_number t o ≡ Some xs
    → ((ys : List Long) → o ≡ Some ys → length ys ≡ n) → length xs ≡ suc n
and_length (long a) (Some ys) xs n is h = let e : a ∷ ys ≡ xs = cc in ap length (sym e) ∙ ap suc (h ys refl)
and_length x o xs n is h = absurd cc

pub numbers_length : (h : Names) (es : List Shape) (xs : List Long) → numbers h es ≡ Some xs → length xs ≡ length es
numbers_length h [] xs is = let e : [] ≡ xs = cc in ap length (sym e)
numbers_length h (e ∷ es) xs is = and_length _ (numbers h es) xs (length es) is (numbers_length h es)

pub exprs_length : (es : List LongExpr) → length (exprs_of es) ≡ length es
exprs_length [] = refl
exprs_length (e ∷ es) = ap suc (exprs_length es)

steps_length : (vs : List (Vec ParseStep)) → length (steps_of vs) ≡ length vs
steps_length [] = refl
steps_length (v ∷ vs) = ap suc (steps_length vs)

postfix_length : (es : List Shape) → length (each_postfix es) ≡ length es
postfix_length [] = refl
postfix_length (e ∷ es) = ap suc (postfix_length es)

pub same_length : (vs : List (Vec ParseStep)) (es : List Shape) → steps_of vs ≡ each_postfix es → length vs ≡ length es
same_length vs es is = sym (steps_length vs) ∙ ap length is ∙ postfix_length es

exprs_append : (es : List LongExpr) (e : LongExpr) → exprs_of (es ++ e ∷ []) ≡ exprs_of es ++ long_of e ∷ []
exprs_append [] e = refl
exprs_append (f ∷ es) e = ap (λ v. long_of f ∷ v) (exprs_append es e)

after_one : (es : List LongExpr) (e : LongExpr) (o : Option (List Long))
    → after_numbers (exprs_of (es ++ e ∷ [])) o ≡ after_numbers (exprs_of es) (and_number (long (long_of e)) o)
after_one es e None = refl
after_one es e (Some fs) = ap Some (ap (λ v. v ++ fs) (exprs_append es e)
    ∙ append_assoc (exprs_of es) (long_of e ∷ []) fs)

-- the operand at a place is one more number
pub numbers_on : (h : Names) (vs : List (Vec ParseStep)) (i : ℕ) (d v : Vec ParseStep) (old new : List LongExpr)
    (e : LongExpr) → i < length vs → v ≡ get_or vs i d → top_typed (typed_steps h [] v.items) ≡ long (long_of e)
    → new ≡ old ++ e ∷ [] → after_numbers (exprs_of new) (step_numbers h (steps_of (drop (i + 1) vs)))
    ≡ after_numbers (exprs_of old) (step_numbers h (steps_of (drop i vs)))
numbers_on h vs i d v old new e lt here type is =
    let rest = step_numbers h (steps_of (drop (i + 1) vs)) in
    ap (λ es. after_numbers (exprs_of es) rest) is
    ∙ after_one old e rest
    ∙ ap (λ t. after_numbers (exprs_of old) (and_number t rest))
    (sym type ∙ ap (λ (v : Vec ParseStep). top_typed (typed_steps h [] v.items)) here)
    ∙ ap (λ vs. after_numbers (exprs_of old) (step_numbers h (steps_of vs))) (sym (drop_more vs i d lt))

-- ---- the verdict

over : (n : ℕ) → 64 < n → nat_lt 64 n ≡ true
over n h = grind (arith, common_steps)

within : (n : ℕ) → n ≤ 64 → nat_lt 64 n ≡ false
within n h = grind (arith, common_steps)

pub too_large : (h : Names) (s : StreamSource) (es : List Shape) → all_fit es ≡ false
    → stream_verdict h s es ≡ Err fault.LiteralTooLarge
too_large h s es off = rw off refl

pub too_deep : (h : Names) (s : StreamSource) (es : List Shape) → all_fit es ≡ true
    → 64 < max (suc (deepest es)) (length es) → stream_verdict h s es ≡ Err fault.TooDeep
too_deep h s es on more = let k : nat_lt 64 (max (suc (deepest es)) (length es)) ≡ true = over _ more in rw (on, k) refl

pub unknown : (h : Names) (s : StreamSource) (es : List Shape) → all_fit es ≡ true
    → max (suc (deepest es)) (length es) ≤ 64 → all_known 1 es ≡ false → stream_verdict h s es ≡ Err fault.UnknownName
unknown h s es on less off = let k : nat_lt 64 (max (suc (deepest es)) (length es)) ≡ false = within _ less in
    rw (on, k, off) refl

pub by_numbers : (h : Names) (s : StreamSource) (es : List Shape) (o : Option (List Long)) → all_fit es ≡ true
    → max (suc (deepest es)) (length es) ≤ 64 → all_known 1 es ≡ true → numbers h es ≡ o
    → stream_verdict h s es ≡ streamed s o
by_numbers h s es o on less known is = let k : nat_lt 64 (max (suc (deepest es)) (length es)) ≡ false = within _ less in
    rw (on, k, known) (ap (streamed s) is)
