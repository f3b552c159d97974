-- What the word after an operand says of the words, by places.
use Rattle.std.proofs.Common.{◌≡◌, ℕ, suc, ◌+◌, ◌<◌, ◌≤◌, List, [], ◌∷◌, ◌++◌, length, take, drop, get_or, refl, sym}
use Rattle.std.proofs.Common.{ap, subst, ◌∙◌, arith}
use Rattle.std.proofs.lemmas.List.{drop_all, get_or-drop, length-drop, take_all, take_more}
use Rattle.std.specs.Global.{Vec}
use Rattle.lambda_expr.specs.declared.lexeme.Lexeme.{Lexeme}
use Rattle.lambda_expr.specs.declared.lexeme.Lexeme.TheVariants as word
use Rattle.lambda_expr.specs.declared.sign.Sign.TheVariants as sign
use Rattle.lambda_expr.specs.declared.source.StreamSource.{StreamSource}
use Rattle.lambda_expr.specs.declared.step.ParseStep.{ParseStep}
use Rattle.lambda_expr.specs.declared.lexeme.Numeral.TheVariants.{Places}
use Rattle.lambda_expr.specs.Grammar.{Shape, number, Expression, IsExpression, postfix}
use Rattle.lambda_expr.specs.SourceReading.{ArePosted, IsFront, IsNext, Next, TakesMore, each_postfix, steps_of}
use Rattle.lambda_expr.specs.Sources.{Takes, further}
use Rattle.lambda_expr.specs.Stops.{StopsAt}
use Rattle.lambda_expr.proofs.OperandLemmas.{IsCut, at_place, cut_at, more_no, stops_close, stops_cut, stops_open}
use Rattle.lambda_expr.proofs.OperandLemmas.{whole_close}
use Rattle.lambda_expr.proofs.PartLemmas.{IsPast, past_comma, postfix_more, steps_more}

-- an operand ends there and nothing may follow it
stops_by : (s : StreamSource) (n : ℕ) (ws : List Lexeme) (k : ℕ) → TakesMore s n → k < length ws
    → StopsAt Expression ws k → ((es : List Shape) (m : List Lexeme) → Takes s (n + suc (length es))
    → further es ≡ get_or ws k word.Other ∷ m → ⊥) → StopsAt (Next s n) ws k
stops_by s n ws k t lt stops dead = at_place (Next s n) ws k word.Other lt
    (stops_cut s n (take k ws) (get_or ws k word.Other) (drop (k + 1) ws) t (cut_at ws k word.Other stops lt)
    (λ e es m count x is. dead es m count is))

other_dead : (es : List Shape) (w : Lexeme) (m : List Lexeme) → (w ≡ word.Sign sign.Comma → ⊥) → (w ≡ word.Close → ⊥)
    → further es ≡ w ∷ m → ⊥
other_dead [] w m a b is = b cc
other_dead (e ∷ es) w m a b is = a cc

-- another word than a comma and the parenthesis that closes
pub stops_other : (s : StreamSource) (n : ℕ) (ws : List Lexeme) (k : ℕ) → TakesMore s n → k < length ws
    → StopsAt Expression ws k → (get_or ws k word.Other ≡ word.Sign sign.Comma → ⊥)
    → (get_or ws k word.Other ≡ word.Close → ⊥) → StopsAt (Next s n) ws k
stops_other s n ws k t lt stops a b = stops_by s n ws k t lt stops
    (λ es m count is. other_dead es (get_or ws k word.Other) m a b is)

many_dead : (s : StreamSource) (n : ℕ) (es : List Shape) (w : Lexeme) (m : List Lexeme) → w ≡ word.Sign sign.Comma
    → (TakesMore s (suc n) → ⊥) → Takes s (n + suc (length es)) → further es ≡ w ∷ m → ⊥
many_dead s n [] w m a never count is = absurd cc
many_dead s n (e ∷ es) w m a never count is = more_no s (suc n) (length es) never (subst (Takes s) (omega arith) count)

-- a comma after all operands that the source may have
pub stops_many : (s : StreamSource) (n : ℕ) (ws : List Lexeme) (k : ℕ) → TakesMore s n → k < length ws
    → StopsAt Expression ws k → get_or ws k word.Other ≡ word.Sign sign.Comma → (TakesMore s (suc n) → ⊥)
    → StopsAt (Next s n) ws k
stops_many s n ws k t lt stops a never =
    stops_by s n ws k t lt stops (λ es m count is. many_dead s n es (get_or ws k word.Other) m a never count is)

few_dead : (s : StreamSource) (n : ℕ) (es : List Shape) (w : Lexeme) (m : List Lexeme) → w ≡ word.Close
    → (Takes s (n + 1) → ⊥) → Takes s (n + suc (length es)) → further es ≡ w ∷ m → ⊥
few_dead s n [] w m a never count is = never count
few_dead s n (e ∷ es) w m a never count is = absurd cc

-- the parenthesis that closes after too few operands
pub stops_few : (s : StreamSource) (n : ℕ) (ws : List Lexeme) (k : ℕ) → TakesMore s n → k < length ws
    → StopsAt Expression ws k → get_or ws k word.Other ≡ word.Close → (Takes s (n + 1) → ⊥) → StopsAt (Next s n) ws k
stops_few s n ws k t lt stops a never = stops_by s n ws k t lt stops
    (λ es m count is. few_dead s n es (get_or ws k word.Other) m a never count is)

closed : (ws : List Lexeme) (k : ℕ) → k < length ws → get_or ws k word.Other ≡ word.Close
    → take k ws ++ word.Close ∷ [] ≡ take (k + 1) ws
closed ws k lt a = ap (λ w. take k ws ++ w ∷ []) (sym a) ∙ sym (take_more ws k word.Other lt)

-- words after the parenthesis that closes
pub stops_late : (s : StreamSource) (n : ℕ) (ws : List Lexeme) (k : ℕ) (e : Shape) → k + 1 < length ws
    → StopsAt Expression ws k → get_or ws k word.Other ≡ word.Close → Takes s (n + 1) → IsExpression (take k ws) e
    → StopsAt (Next s n) ws (k + 1)
stops_late s n ws k e lt stops a count x =
    let here : k < length ws = omega arith in
    let cut = subst (IsCut (take k ws)) a (cut_at ws k word.Other stops here) in
    at_place (Next s n) ws (k + 1) word.Other lt
    (subst (λ c. StopsAt (Next s n) (c ++ get_or ws (k + 1) word.Other ∷ drop (k + 1 + 1) ws) (length c))
    (closed ws k here a) (stops_close s n (take k ws) e (get_or ws (k + 1) word.Other) (drop (k + 1 + 1) ws) count
    cut x))

-- no words after it
pub whole_here : (s : StreamSource) (n : ℕ) (ws : List Lexeme) (k : ℕ) (e : Shape) → k < length ws → length ws ≤ k + 1
    → get_or ws k word.Other ≡ word.Close → Takes s (n + 1) → IsExpression (take k ws) e → IsNext s n e [] ws
whole_here s n ws k e lt le a count x = subst (IsNext s n e []) (closed ws k lt a ∙ take_all (k + 1) ws le)
    (whole_close s n (take k ws) e count x)

-- ---- after the operands of a front

-- the word at a place of what is left
at_front : (ws : List Lexeme) (at k : ℕ) (w : Lexeme) → get_or ws (at + k) word.Other ≡ w
    → get_or (drop at ws) k word.Other ≡ w
at_front ws at k w is = get_or-drop at ws k word.Other ∙ is

-- one more operand and a comma
pub goes_on : (s : StreamSource) (ws : List Lexeme) (at k : ℕ) (front : List Shape) (steps : List ParseStep)
    (f : IsFront (drop at ws) steps k) → IsPast s ws at front → get_or ws (at + k) word.Other ≡ word.Sign sign.Comma
    → TakesMore s (suc (length front)) → IsPast s ws (at + k + 1) (front ++ f.posted.0 ∷ [])
goes_on s ws at k front steps f p is more =
    let same : at + (k + 1) ≡ at + k + 1 = omega arith in
    subst (λ n. IsPast s ws n (front ++ f.posted.0 ∷ [])) same
    (past_comma s ws at k front f.posted.0 p f.within (at_front ws at k (word.Sign sign.Comma) is) f.stops
    f.posted.1 more)

pub steps_on : (vs : List (Vec ParseStep)) (v : Vec ParseStep) (front : List Shape) (e : Shape)
    → steps_of vs ≡ each_postfix front → v.items ≡ postfix e → steps_of (vs ++ v ∷ []) ≡ each_postfix (front ++ e ∷ [])
steps_on vs v front e past is = steps_more vs v ∙ ap (λ ss. ss ++ v.items ∷ []) past
    ∙ ap (λ x. each_postfix front ++ x ∷ []) is ∙ sym (postfix_more front e)

-- all operands and the parenthesis that closes
pub read_whole : (s : StreamSource) (ws : List Lexeme) (at k : ℕ) (front : List Shape) (vs : List (Vec ParseStep))
    (v : Vec ParseStep) → IsFront (drop at ws) v.items k → IsPast s ws at front → steps_of vs ≡ each_postfix front
    → get_or ws (at + k) word.Other ≡ word.Close → Takes s (length front + 1) → length ws ≤ at + k + 1
    → ArePosted s ws (vs ++ v ∷ [])
read_whole s ws at k front vs v f p past is count le =
    let size = length-drop at ws in
    let fits : length (drop at ws) ≤ k + 1 = omega arith in
    let g = p.goes f.posted.0 [] (whole_here s (length front) (drop at ws) k f.posted.0 f.within fits
    (at_front ws at k word.Close is) count f.posted.1) in
    let x = g.3 in
    let all : Takes s (suc (length g.1)) = subst (Takes s) (omega arith) x.count in (
      g.0 ∷ g.1,
      record { count = all; bound = x.bound; spelled = x.spelled },
      steps_on vs v front f.posted.0 past f.posted.2 ∙ ap each_postfix (sym g.2),
    )

pub past_other : (s : StreamSource) (ws : List Lexeme) (at k : ℕ) (front : List Shape) (steps : List ParseStep)
    → IsFront (drop at ws) steps k → IsPast s ws at front → (get_or ws (at + k) word.Other ≡ word.Sign sign.Comma → ⊥)
    → (get_or ws (at + k) word.Other ≡ word.Close → ⊥) → StopsAt (Next s 0) ws (at + k)
past_other s ws at k front steps f p a b =
    p.stops k (stops_other s (length front) (drop at ws) k p.more f.within f.stops
    (λ e. a (sym (get_or-drop at ws k word.Other) ∙ e)) (λ e. b (sym (get_or-drop at ws k word.Other) ∙ e)))

pub past_many : (s : StreamSource) (ws : List Lexeme) (at k : ℕ) (front : List Shape) (steps : List ParseStep)
    → IsFront (drop at ws) steps k → IsPast s ws at front → get_or ws (at + k) word.Other ≡ word.Sign sign.Comma
    → (TakesMore s (suc (length front)) → ⊥) → StopsAt (Next s 0) ws (at + k)
past_many s ws at k front steps f p is never =
    p.stops k (stops_many s (length front) (drop at ws) k p.more f.within f.stops
    (at_front ws at k (word.Sign sign.Comma) is) never)

pub past_few : (s : StreamSource) (ws : List Lexeme) (at k : ℕ) (front : List Shape) (steps : List ParseStep)
    → IsFront (drop at ws) steps k → IsPast s ws at front → get_or ws (at + k) word.Other ≡ word.Close
    → (Takes s (length front + 1) → ⊥) → StopsAt (Next s 0) ws (at + k)
past_few s ws at k front steps f p is never =
    p.stops k (stops_few s (length front) (drop at ws) k p.more f.within f.stops (at_front ws at k word.Close is) never)

pub past_late : (s : StreamSource) (ws : List Lexeme) (at k : ℕ) (front : List Shape) (steps : List ParseStep)
    → IsFront (drop at ws) steps k → IsPast s ws at front → get_or ws (at + k) word.Other ≡ word.Close
    → Takes s (length front + 1) → at + k + 1 < length ws → StopsAt (Next s 0) ws (at + k + 1)
past_late s ws at k front steps f p is count lt =
    let size = length-drop at ws in
    let later : k + 1 < length (drop at ws) = omega arith in
    let same : at + (k + 1) ≡ at + k + 1 = omega arith in
    subst (StopsAt (Next s 0) ws) same (p.stops (k + 1)
    (stops_late s (length front) (drop at ws) k f.posted.0 later f.stops (at_front ws at k word.Close is) count
    f.posted.1))

-- the end of the words after a comma, or before any operand
pub past_end : (s : StreamSource) (ws : List Lexeme) (at : ℕ) (front : List Shape) → length ws ≤ at
    → IsPast s ws at front → StopsAt (Next s 0) ws (length ws)
past_end s ws at front le p =
    let none : drop at ws ≡ [] = drop_all at ws le in
    let same : at + 0 ≡ length ws = omega (arith, p.within) in
    subst (StopsAt (Next s 0) ws) same (p.stops 0
    (subst (λ v. StopsAt (Next s (length front)) v 0) (sym none)
    (stops_open s (length front) [] p.more
    (word.Number (Places 0) ∷ [], (number (Places 0), record { binds = tt; spelled = refl })))))
