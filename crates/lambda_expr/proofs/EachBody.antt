-- Any words are the operands of a source, or stop at a place.
use Rattle.std.proofs.Common.{◌≡◌, ◌⊎◌, inl, inr, ⊎_elim, ℕ, zero, suc, ◌+◌, ◌<◌, ◌≤◌, List, [], ◌∷◌, ◌++◌, length}
use Rattle.std.proofs.Common.{take, drop, get_or, refl, sym, ap, subst, ◌∙◌, arith}
use Rattle.std.proofs.lemmas.List.{length-drop}
use Rattle.std.proofs.str.Laws.{order}
use Rattle.lambda_expr.specs.declared.lexeme.Lexeme.{Lexeme}
use Rattle.lambda_expr.specs.declared.lexeme.Lexeme.TheVariants as word
use Rattle.lambda_expr.specs.declared.sign.Sign.TheVariants as sign
use Rattle.lambda_expr.specs.declared.source.StreamSource.{StreamSource}
use Rattle.lambda_expr.specs.declared.source.StreamSource.TheVariants as source
use Rattle.lambda_expr.specs.Grammar.{Shape, Expression, IsExpression, spells}
use Rattle.lambda_expr.specs.SourceReading.{Next, Operands, TakesMore}
use Rattle.lambda_expr.specs.Sources.{AreBound, AreOperands, Takes, further, listed}
use Rattle.lambda_expr.specs.Stops.{Begins, StopsAt}
use Rattle.lambda_expr.proofs.EndLemmas.{stops_few, stops_late, stops_many, stops_other, whole_here}
use Rattle.lambda_expr.proofs.Existence.{each_answer}
use Rattle.lambda_expr.proofs.OperandLemmas.{further_ends, more_no, no_end, no_front, not_close, only_one}
use Rattle.lambda_expr.proofs.PartLemmas.{after_comma, comma_at}
use Rattle.lambda_expr.proofs.Sequences.{stop_at, stop_end}
use Rattle.lambda_expr.proofs.SourceLemmas.{some_list}

-- ---- one way or the other

same_or_not : (m n : ℕ) → (m ≡ n) ⊎ (m ≡ n → ⊥)
same_or_not m n =
    ⊎_elim (λ (lt : m < n). inr (λ e. omega arith))
    (λ (ge : n ≤ m). ⊎_elim (λ (gt : n < m). inr (λ e. omega arith)) (λ (le : m ≤ n). inl (omega arith)) (order n m))
    (order m n)

below_or_not : (m n : ℕ) → (m < n) ⊎ (m < n → ⊥)
below_or_not m n = ⊎_elim (λ (lt : m < n). inl lt) (λ (ge : n ≤ m). inr (λ lt. omega arith)) (order m n)

takes_or_not : (s : StreamSource) (n : ℕ) → Takes s n ⊎ (Takes s n → ⊥)
takes_or_not source.Of n = inl tt
takes_or_not source.Empty n = same_or_not n 0
takes_or_not x n = same_or_not n 2

more_or_not : (s : StreamSource) (n : ℕ) → TakesMore s n ⊎ (TakesMore s n → ⊥)
more_or_not source.Of n = inl tt
more_or_not source.Empty n = inr (λ t. t)
more_or_not x n = below_or_not n 2

-- a comma, the parenthesis that closes, or another word
abbrev Ending : Lexeme → Type 0
Ending w = (w ≡ word.Sign sign.Comma) ⊎ ((w ≡ word.Close) ⊎ ((w ≡ word.Sign sign.Comma → ⊥) × (w ≡ word.Close → ⊥)))

ending : (w : Lexeme) → Ending w
ending (word.Sign sign.Comma) = inl refl
ending word.Close = inr (inl refl)
ending w = inr (inr (λ e. cc, λ e. cc))

-- ---- one more operand, and others

abbrev Answered : StreamSource → ℕ → List Lexeme → Type 0
Answered s n ws = Next s n ws ⊎ ((q : ℕ) × StopsAt (Next s n) ws q)

-- a comma
at_comma : (s : StreamSource) (n : ℕ) (ws : List Lexeme) (k : ℕ) (e : Shape) → k < length ws → StopsAt Expression ws k
    → IsExpression (take k ws) e → get_or ws k word.Other ≡ word.Sign sign.Comma → Answered s (suc n) (drop (k + 1) ws)
    → Answered s n ws
at_comma s n ws k e lt stops x is (inl y) = inl (e, y.0 ∷ y.1, comma_at s n ws k e y.0 y.1 lt is x y.2)
at_comma s n ws k e lt stops x is (inr q) = inr (k + 1 + q.0, after_comma s n ws k q.0 e lt is stops x q.1)

at_more : (s : StreamSource) (n : ℕ) (ws : List Lexeme) (k : ℕ) (e : Shape) → TakesMore s n → k < length ws
    → StopsAt Expression ws k → IsExpression (take k ws) e → get_or ws k word.Other ≡ word.Sign sign.Comma
    → (TakesMore s (suc n) → Answered s (suc n) (drop (k + 1) ws)) → TakesMore s (suc n) ⊎ (TakesMore s (suc n) → ⊥)
    → Answered s n ws
at_more s n ws k e t lt stops x is later (inl more) = at_comma s n ws k e lt stops x is (later more)
at_more s n ws k e t lt stops x is later (inr never) = inr (k, stops_many s n ws k t lt stops is never)

-- the parenthesis that closes
at_close : (s : StreamSource) (n : ℕ) (ws : List Lexeme) (k : ℕ) (e : Shape) → TakesMore s n → k < length ws
    → StopsAt Expression ws k → IsExpression (take k ws) e → get_or ws k word.Other ≡ word.Close
    → Takes s (n + 1) ⊎ (Takes s (n + 1) → ⊥) → Answered s n ws
at_close s n ws k e t lt stops x is (inr never) = inr (k, stops_few s n ws k t lt stops is never)
at_close s n ws k e t lt stops x is (inl count) =
    ⊎_elim (λ (more : k + 1 < length ws). inr (k + 1, stops_late s n ws k e more stops is count x))
    (λ (le : length ws ≤ k + 1). inl (e, [], whole_here s n ws k e lt le is count x))
    (order (k + 1) (length ws))

at_ending : (s : StreamSource) (n : ℕ) (ws : List Lexeme) (k : ℕ) (e : Shape) → TakesMore s n → k < length ws
    → StopsAt Expression ws k → IsExpression (take k ws) e
    → (TakesMore s (suc n) → Answered s (suc n) (drop (k + 1) ws)) → Ending (get_or ws k word.Other) → Answered s n ws
at_ending s n ws k e t lt stops x later (inl is) = at_more s n ws k e t lt stops x is later (more_or_not s (suc n))
at_ending s n ws k e t lt stops x later (inr (inl is)) = at_close s n ws k e t lt stops x is (takes_or_not s (n + 1))
at_ending s n ws k e t lt stops x later (inr (inr never)) = inr (k, stops_other s n ws k t lt stops never.0 never.1)

at_front : (s : StreamSource) (n : ℕ) (ws : List Lexeme) (k : ℕ) → TakesMore s n → k < length ws
    → StopsAt Expression ws k → (TakesMore s (suc n) → Answered s (suc n) (drop (k + 1) ws))
    → Expression (take k ws) ⊎ ((q : ℕ) × StopsAt Expression (take k ws) q) → Answered s n ws
at_front s n ws k t lt stops later (inl x) =
    at_ending s n ws k x.0 t lt stops x.1 later (ending (get_or ws k word.Other))
at_front s n ws k t lt stops later (inr q) = inr (k, no_front ws k s n t lt stops q.1.outside)

at_answer : (s : StreamSource) (n : ℕ) (ws : List Lexeme) → TakesMore s n
    → ((k : ℕ) → k < length ws → TakesMore s (suc n) → Answered s (suc n) (drop (k + 1) ws))
    → Expression ws ⊎ ((k : ℕ) × StopsAt Expression ws k) → Answered s n ws
at_answer s n ws t later (inl x) = inr (length ws, only_one ws x.0 s n t x.1)
at_answer s n ws t later (inr p) =
    ⊎_elim (λ (lt : p.0 < length ws). at_front s n ws p.0 t lt p.1 (λ more. later p.0 lt more)
    (each_answer (take p.0 ws)))
    (λ (le : length ws ≤ p.0). inr (length ws, no_end ws p.0 s n t le p.1))
    (order p.0 (length ws))

next_within : (size : ℕ) (s : StreamSource) (n : ℕ) (ws : List Lexeme) → length ws ≤ size → TakesMore s n
    → Answered s n ws
next_within zero s n ws le t = at_answer s n ws t (λ k lt more. absurd (omega arith)) (each_answer ws)
next_within (suc size) s n ws le t = at_answer s n ws t
    (λ k lt more. let left = length-drop (k + 1) ws in next_within size s (suc n) (drop (k + 1) ws) (omega arith) more)
    (each_answer ws)

-- ---- all operands

-- the words do not begin with the parenthesis that closes
abbrev pub IsNotClosed : List Lexeme → Type 0
IsNotClosed [] = Unit {0}
IsNotClosed (w ∷ ws) = w ≡ word.Close → ⊥

close_is_closed : (ws : List Lexeme) → IsNotClosed ws → word.Close ∷ [] ≡ ws → ⊥
close_is_closed [] never is = cc
close_is_closed (w ∷ ws) never is = never cc

next_of : (s : StreamSource) (es : List Shape) (ws : List Lexeme) → IsNotClosed ws → AreOperands s es ws → Next s 0 ws
next_of s [] ws never a = absurd (close_is_closed ws never a.spelled)
next_of s (e ∷ es) ws never a = (
  e,
  es,
  record
      { count = subst (Takes s) (omega arith) a.count; bound = a.bound; spelled = a.spelled },
)

of_next : (s : StreamSource) (ws : List Lexeme) → Next s 0 ws → Operands s ws
of_next s ws x = (
  x.0 ∷ x.1,
  record {
    count = subst (Takes s) (omega arith) x.2.count;
    bound = x.2.bound;
    spelled = x.2.spelled;
  },
)

stops_more : (s : StreamSource) (ws : List Lexeme) (n : ℕ) → n < length ws → IsNotClosed ws
    → (Begins (Next s 0) (take (n + 1) ws) → ⊥) → Begins (Operands s) (take (n + 1) ws) → ⊥
stops_more s [] n lt never none b = omega arith
stops_more s (w ∷ ws) n lt never none b =
    let next : n + 1 ≡ suc n = omega arith in
    none (
      b.0,
      subst (λ k. Next s 0 (take k (w ∷ ws) ++ b.0)) (sym next)
          (next_of s b.1.0 (w ∷ (take n ws ++ b.0)) never
          (subst (λ k. AreOperands s b.1.0 (take k (w ∷ ws) ++ b.0)) next b.1.1)),
    )

pub operands_stop : (s : StreamSource) (ws : List Lexeme) (n : ℕ) → IsNotClosed ws → StopsAt (Next s 0) ws n
    → StopsAt (Operands s) ws n
operands_stop s ws n never h = record {
  within = h.within;
  outside = λ x. h.outside (next_of s x.0 ws never x.1);
  begins = (h.begins.0, of_next s _ h.begins.1);
  stops = λ lt b. stops_more s ws n lt never (h.stops lt) b;
}

begins_operands : (s : StreamSource) → Begins (Operands s) []
begins_operands s = some_list s

not_empty_by : (us vs : List Lexeme) (w : Lexeme) → us ++ w ∷ vs ≡ [] → ⊥
not_empty_by [] vs w is = cc
not_empty_by (u ∷ us) vs w is = cc

not_empty : (s : StreamSource) (es : List Shape) → AreOperands s es [] → ⊥
not_empty s [] a = let is = a.spelled in cc
not_empty s (e ∷ es) a = let f = further_ends es in
    not_empty_by (spells e) f.rest f.word (ap (λ v. spells e ++ v) (sym f.is) ∙ a.spelled)

-- the source has no operands
pub none_stop : (s : StreamSource) (ws : List Lexeme) → IsNotClosed ws → (TakesMore s 0 → ⊥) → StopsAt (Operands s) ws 0
none_stop s [] never none_more = stop_end (Operands s) [] (begins_operands s) (λ x. not_empty s x.0 x.1)
none_stop s (w ∷ ws) never none_more = stop_at (Operands s) [] w ws (begins_operands s)
    (λ m x. let y = next_of s x.0 (w ∷ m) never x.1 in more_no s 0 (length y.1) none_more y.2.count)

-- after the parenthesis that closes no operand stands
closed_by : (e : Shape) (es : List Shape) (m : List Lexeme) → AreBound (e ∷ es) → listed (e ∷ es) ≡ word.Close ∷ m → ⊥
closed_by e es m b is = not_close e (further es) m b.0 is

closed_some : (s : StreamSource) (es : List Shape) (m : List Lexeme) → (Takes s 0 → ⊥)
    → AreOperands s es (word.Close ∷ m) → ⊥
closed_some s [] m never a = never a.count
closed_some s (e ∷ es) m never a = closed_by e es m a.bound a.spelled

closed_more : (s : StreamSource) (es : List Shape) (w : Lexeme) (m : List Lexeme)
    → AreOperands s es (word.Close ∷ w ∷ m) → ⊥
closed_more s [] w m a = let is = a.spelled in cc
closed_more s (e ∷ es) w m a = closed_by e es (w ∷ m) a.bound a.spelled

-- the parenthesis that closes, and the source has some
pub few_stop : (s : StreamSource) (ws : List Lexeme) → (Takes s 0 → ⊥) → StopsAt (Operands s) (word.Close ∷ ws) 0
few_stop s ws never = stop_at (Operands s) [] word.Close ws (begins_operands s) (λ m x. closed_some s x.0 m never x.1)

-- words after it
pub late_stop : (s : StreamSource) (w : Lexeme) (ws : List Lexeme) → Takes s 0
    → StopsAt (Operands s) (word.Close ∷ w ∷ ws) 1
late_stop s w ws count = stop_at (Operands s) (word.Close ∷ []) w ws
    ([], ([], record { count = count; bound = tt; spelled = refl })) (λ m x. closed_more s x.0 w m x.1)

pub no_operands : (s : StreamSource) → Takes s 0 → AreOperands s [] (word.Close ∷ [])
no_operands s count = record { count = count; bound = tt; spelled = refl }

by_close : (s : StreamSource) (ws : List Lexeme) → Takes s 0 ⊎ (Takes s 0 → ⊥)
    → Operands s (word.Close ∷ ws) ⊎ ((q : ℕ) × StopsAt (Operands s) (word.Close ∷ ws) q)
by_close s ws (inr never) = inr (0, few_stop s ws never)
by_close s [] (inl count) = inl ([], no_operands s count)
by_close s (w ∷ ws) (inl count) = inr (1, late_stop s w ws count)

by_next : (s : StreamSource) (ws : List Lexeme) → IsNotClosed ws → Answered s 0 ws
    → Operands s ws ⊎ ((q : ℕ) × StopsAt (Operands s) ws q)
by_next s ws never (inl x) = inl (of_next s ws x)
by_next s ws never (inr q) = inr (q.0, operands_stop s ws q.0 never q.1)

by_first : (s : StreamSource) (ws : List Lexeme) → IsNotClosed ws → TakesMore s 0 ⊎ (TakesMore s 0 → ⊥)
    → Operands s ws ⊎ ((q : ℕ) × StopsAt (Operands s) ws q)
by_first s ws never (inl more) = by_next s ws never (next_within (length ws) s 0 ws (omega arith) more)
by_first s ws never (inr none_more) = inr (0, none_stop s ws never none_more)

by_ending : (s : StreamSource) (w : Lexeme) (ws : List Lexeme) → Ending w
    → Operands s (w ∷ ws) ⊎ ((q : ℕ) × StopsAt (Operands s) (w ∷ ws) q)
by_ending s w ws (inl is) = by_first s (w ∷ ws) (λ e. let same : word.Sign sign.Comma ≡ word.Close = sym is ∙ e in cc)
    (more_or_not s 0)
by_ending s w ws (inr (inl is)) = subst (λ w. Operands s (w ∷ ws) ⊎ ((q : ℕ) × StopsAt (Operands s) (w ∷ ws) q))
    (sym is) (by_close s ws (takes_or_not s 0))
by_ending s w ws (inr (inr never)) = by_first s (w ∷ ws) never.1 (more_or_not s 0)

pub each_operands : (s : StreamSource) (ws : List Lexeme) → Operands s ws ⊎ ((q : ℕ) × StopsAt (Operands s) ws q)
each_operands s [] = by_first s [] tt (more_or_not s 0)
each_operands s (w ∷ ws) = by_ending s w ws (ending w)

-- ---- what the reader sees first

pub closed_front : (ws : List Lexeme) → get_or ws 0 word.Other ≡ word.Close → ws ≡ word.Close ∷ drop 1 ws
closed_front [] h = absurd cc
closed_front (w ∷ ws) h = ap (λ v. v ∷ ws) h

pub not_closed : (ws : List Lexeme) → (get_or ws 0 word.Other ≡ word.Close → ⊥) → IsNotClosed ws
not_closed [] h = tt
not_closed (w ∷ ws) h = h
