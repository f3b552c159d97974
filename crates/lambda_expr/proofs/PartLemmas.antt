-- The operands that were read so far.
use Rattle.std.proofs.Common.{◌≡◌, ℕ, suc, ◌+◌, ◌<◌, ◌≤◌, List, [], ◌∷◌, ◌++◌, length, take, drop, get_or, refl, sym}
use Rattle.std.proofs.Common.{ap, subst, ◌∙◌, append_assoc, arith}
use Rattle.std.proofs.lemmas.List.{drop-drop, length-append, length-drop}
use Rattle.std.specs.Global.{Vec}
use Rattle.lambda_expr.specs.declared.lexeme.Lexeme.{Lexeme}
use Rattle.lambda_expr.specs.declared.lexeme.Lexeme.TheVariants as word
use Rattle.lambda_expr.specs.declared.sign.Sign.TheVariants as sign
use Rattle.lambda_expr.specs.declared.source.StreamSource.{StreamSource}
use Rattle.lambda_expr.specs.declared.step.ParseStep.{ParseStep}
use Rattle.lambda_expr.specs.Grammar.{Shape, Expression, IsExpression, postfix}
use Rattle.lambda_expr.specs.SourceReading.{IsNext, Next, TakesMore, each_postfix, steps_of}
use Rattle.lambda_expr.specs.Stops.{StopsAt}
use Rattle.lambda_expr.proofs.OperandLemmas.{IsCut, comma_from, cut_at, in_words, long, stops_comma}

pub steps_more : (vs : List (Vec ParseStep)) (v : Vec ParseStep) → steps_of (vs ++ v ∷ []) ≡ steps_of vs ++ v.items ∷ []
steps_more [] v = refl
steps_more (u ∷ vs) v = ap (λ ss. u.items ∷ ss) (steps_more vs v)

pub postfix_more : (es : List Shape) (e : Shape) → each_postfix (es ++ e ∷ []) ≡ each_postfix es ++ postfix e ∷ []
postfix_more [] e = refl
postfix_more (f ∷ es) e = ap (λ ss. postfix f ∷ ss) (postfix_more es e)

-- these operands stand before a place, and what follows it goes on with them
pub record IsPast (s : StreamSource) (ws : List Lexeme) (at : ℕ) (front : List Shape) : Type 0 where
  pub within : at ≤ length ws
  pub more : TakesMore s (length front)
  pub stops : (q : ℕ) → StopsAt (Next s (length front)) (drop at ws) q → StopsAt (Next s 0) ws (at + q)
  pub goes : (e : Shape) (es : List Shape) → IsNext s (length front) e es (drop at ws)
      → (f : Shape) × (fs : List Shape) × (f ∷ fs ≡ front ++ e ∷ es) × IsNext s 0 f fs ws

pub start : (s : StreamSource) (ws : List Lexeme) → TakesMore s 0 → IsPast s ws 0 []
start s ws t = record {
  within = omega arith;
  more = t;
  stops = λ q h. let same : q ≡ 0 + q = omega arith in subst (StopsAt (Next s 0) ws) same h;
  goes = λ e es x. (e, es, refl, x);
}

-- the words after a comma
pub after_comma : (s : StreamSource) (n : ℕ) (vs : List Lexeme) (k q : ℕ) (e : Shape) → k < length vs
    → get_or vs k word.Other ≡ word.Sign sign.Comma → StopsAt Expression vs k → IsExpression (take k vs) e
    → StopsAt (Next s (suc n)) (drop (k + 1) vs) q → StopsAt (Next s n) vs (k + 1 + q)
after_comma s n vs k q e lt is stops x h =
    let c = take k vs in
    let cut = subst (IsCut c) is (cut_at vs k word.Other stops lt) in
    let all : (c ++ word.Sign sign.Comma ∷ []) ++ drop (k + 1) vs ≡ vs =
    append_assoc c (word.Sign sign.Comma ∷ []) (drop (k + 1) vs) ∙ ap (λ w. c ++ w ∷ drop (k + 1) vs) (sym is)
    ∙ in_words vs k word.Other lt in
    let size : length (c ++ word.Sign sign.Comma ∷ []) ≡ k + 1 =
    length-append c (word.Sign sign.Comma ∷ []) ∙ ap (λ n. n + 1) (long vs k (omega arith)) in
    subst (λ m. StopsAt (Next s n) vs (m + q)) size
    (subst (λ v. StopsAt (Next s n) v (length (c ++ word.Sign sign.Comma ∷ []) + q)) all
    (stops_comma s n c (drop (k + 1) vs) e q cut x h))

-- an operand, a comma and what follows it
pub comma_at : (s : StreamSource) (n : ℕ) (vs : List Lexeme) (k : ℕ) (e f : Shape) (es : List Shape) → k < length vs
    → get_or vs k word.Other ≡ word.Sign sign.Comma → IsExpression (take k vs) e
    → IsNext s (suc n) f es (drop (k + 1) vs) → IsNext s n e (f ∷ es) vs
comma_at s n vs k e f es lt is x y =
    let whole : take k vs ++ word.Sign sign.Comma ∷ drop (k + 1) vs ≡ vs =
    ap (λ w. take k vs ++ w ∷ drop (k + 1) vs) (sym is) ∙ in_words vs k word.Other lt in
    subst (IsNext s n e (f ∷ es)) whole (comma_from s n (take k vs) (drop (k + 1) vs) e f es x y)

-- one more operand and a comma
pub past_comma : (s : StreamSource) (ws : List Lexeme) (at k : ℕ) (front : List Shape) (e : Shape)
    → IsPast s ws at front → k < length (drop at ws) → get_or (drop at ws) k word.Other ≡ word.Sign sign.Comma
    → StopsAt Expression (drop at ws) k → IsExpression (take k (drop at ws)) e → TakesMore s (suc (length front))
    → IsPast s ws (at + (k + 1)) (front ++ e ∷ [])
past_comma s ws at k front e p lt is stops x more =
    let vs = drop at ws in
    let all = length-drop at ws in
    let count : length (front ++ e ∷ []) ≡ suc (length front) =
    length-append front (e ∷ []) ∙ (let h : length front + 1 ≡ suc (length front) = omega arith in h) in
    let rest : drop (at + (k + 1)) ws ≡ drop (k + 1) vs = sym (drop-drop (k + 1) at ws) in
    record {
      within = omega arith;
      more = subst (TakesMore s) (sym count) more;
      stops = λ q h.
          let there : StopsAt (Next s (suc (length front))) (drop (k + 1) vs) q =
          subst (λ n. StopsAt (Next s n) (drop (k + 1) vs) q) count
          (subst (λ v. StopsAt (Next s (length (front ++ e ∷ []))) v q) rest h) in
          let same : at + (k + 1 + q) ≡ at + (k + 1) + q = omega arith in
          subst (StopsAt (Next s 0) ws) same
          (p.stops (k + 1 + q) (after_comma s (length front) vs k q e lt is stops x there));
      goes = λ f es y.
          let there : IsNext s (suc (length front)) f es (drop (k + 1) vs) =
          subst (λ n. IsNext s n f es (drop (k + 1) vs)) count
          (subst (λ v. IsNext s (length (front ++ e ∷ [])) f es v) rest y) in
          let g = p.goes e (f ∷ es) (comma_at s (length front) vs k e f es lt is x there) in
          (g.0, g.1, g.2 ∙ sym (append_assoc front (e ∷ []) (f ∷ es)), g.3);
    }
