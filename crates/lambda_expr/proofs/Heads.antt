-- Any words are a lambda, or stop at a place.
use Rattle.std.proofs.Common.{◌≡◌, ◌≢◌, ◌⊎◌, inl, inr, ℕ, zero, suc, ◌+◌, ◌<◌, ◌≤◌, List, [], ◌∷◌, length, drop, Result}
use Rattle.std.proofs.Common.{Ok, Err, Option, Some, None, refl, sym, ap, ◌∙◌, ⊎_elim, arith}
use Rattle.std.proofs.str.Laws.{order}
use Rattle.lambda_expr.specs.declared.head.HeadMark.{HeadMark}
use Rattle.lambda_expr.specs.declared.head.HeadMark.TheVariants as mark
use Rattle.lambda_expr.specs.declared.want.Want.{Want}
use Rattle.lambda_expr.specs.declared.lexeme.Lexeme.{Lexeme}
use Rattle.lambda_expr.specs.HeadReading.{IsMatched, AreTried, first_of}
use Rattle.lambda_expr.specs.Heads.{ABody, ALambda, mark_of, heads}
use Rattle.lambda_expr.specs.Stops.{StopsAt}
use Rattle.lambda_expr.proofs.Bodies.{each_body}
use Rattle.lambda_expr.proofs.Lambdas.{lambda_of, stops_in_body, stops_in_head}

-- marks by number, and back
abbrev code : HeadMark → ℕ
code mark.LowerLong = 0
code mark.Open = 1
code mark.Comma = 2
code mark.Close = 3
code mark.Arrow = 4
code (mark.Parameter n) = suc (suc (suc (suc (suc n))))

abbrev coded : ℕ → HeadMark
coded zero = mark.LowerLong
coded (suc zero) = mark.Open
coded (suc (suc zero)) = mark.Comma
coded (suc (suc (suc zero))) = mark.Close
coded (suc (suc (suc (suc zero)))) = mark.Arrow
coded (suc (suc (suc (suc (suc n))))) = mark.Parameter n

back : (m : HeadMark) → coded (code m) ≡ m
back mark.LowerLong = refl
back x = refl

same_or_not : (m n : HeadMark) → (m ≡ n) ⊎ (m ≢ n)
same_or_not m n =
    ⊎_elim (λ (lt : code m < code n). inr (λ e. let same = ap code e in absurd (omega arith)))
    (λ (ge : code n ≤ code m). ⊎_elim (λ (gt : code n < code m). inr
    (λ e. let same = ap code e in absurd (omega arith)))
    (λ (le : code m ≤ code n). let same : code m ≡ code n = omega arith in
    inl (sym (back m) ∙ ap coded same ∙ back n)) (order (code n) (code m)))
    (order (code m) (code n))

is_mark : (o : Option HeadMark) (m : HeadMark) → (o ≡ Some m) ⊎ (o ≢ Some m)
is_mark None m = inr (λ e. cc)
is_mark (Some n) m = ⊎_elim (λ (e : n ≡ m). inl (ap Some e))
    (λ (d : n ≢ m). inr (λ e. d (let same : n ≡ m = cc in same))) (same_or_not n m)

match_by : (m : HeadMark) (p : List HeadMark) (w : Lexeme) (ws : List Lexeme)
    → (mark_of w ≡ Some m) ⊎ (mark_of w ≢ Some m) → (n : ℕ) × IsMatched p ws n → (n : ℕ) × IsMatched (m ∷ p) (w ∷ ws) n
match_by m p w ws (inl e) later = (suc later.0, (e, later.1))
match_by m p w ws (inr d) later = (zero, d)

each_match : (p : List HeadMark) (ws : List Lexeme) → (n : ℕ) × IsMatched p ws n
each_match (m ∷ p) (w ∷ ws) = match_by m p w ws (is_mark (mark_of w) m) (each_match p ws)
each_match x ws = (0, refl)

each_trial : (ps : List (List HeadMark)) (ws : List Lexeme) → (r : Result ℕ ℕ) × AreTried ps ws r
each_trial [] ws = (Err 0, refl)
each_trial (p ∷ ps) ws =
    let later = each_trial ps ws in
    let m = each_match p ws in
    (first_of (length p) m.0 later.0, (later.0, (m.0, m.1, refl), later.1))

abbrev Answered : Want → List Lexeme → Type 0
Answered w ws = ALambda w ws ⊎ ((n : ℕ) × StopsAt (ALambda w) ws n)

by_body : (w : Want) (ws : List Lexeme) (r : Result ℕ ℕ) (n : ℕ) → AreTried (heads w) ws r → r ≡ Ok n
    → ABody w (drop n ws) ⊎ ((k : ℕ) × StopsAt (ABody w) (drop n ws) k) → Answered w ws
by_body w ws r n t is (inl x) = inl (x.0, lambda_of w ws r n x.0 t is x.1)
by_body w ws r n t is (inr s) = inr (n + s.0, stops_in_body w ws r n s.0 t is s.1)

by_head : (w : Want) (ws : List Lexeme) (r q : Result ℕ ℕ) → AreTried (heads w) ws r → r ≡ q → Answered w ws
by_head w ws r (Ok n) t is = by_body w ws r n t is (each_body w (drop n ws))
by_head w ws r (Err n) t is = inr (n, stops_in_head w ws r n t is)

pub each_lambda : (w : Want) (ws : List Lexeme) → ALambda w ws ⊎ ((n : ℕ) × StopsAt (ALambda w) ws n)
each_lambda w ws = let t = each_trial (heads w) ws in by_head w ws t.0 t.0 t.1 refl
