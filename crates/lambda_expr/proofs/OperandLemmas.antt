-- Operands of a source, one by one: where an operand ends, and where the words stop.
use Rattle.std.proofs.Common.{◌≡◌, inl, inr, ◌⊎◌, ℕ, zero, suc, ◌+◌, ◌-◌, ◌<◌, ◌≤◌, List, [], ◌∷◌, ◌++◌, length, refl}
use Rattle.std.proofs.Common.{sym, ap, subst, ◌∙◌, append_assoc, append-nil, arith, None, take, drop, get_or}
use Rattle.std.proofs.lemmas.List.{take_all, take_more, take-append-drop}
use Rattle.lambda_expr.specs.declared.lexeme.Lexeme.{Lexeme}
use Rattle.lambda_expr.specs.declared.lexeme.Lexeme.TheVariants as word
use Rattle.lambda_expr.specs.declared.sign.Sign.TheVariants as sign
use Rattle.lambda_expr.specs.declared.source.StreamSource.{StreamSource}
use Rattle.lambda_expr.specs.declared.source.StreamSource.TheVariants as source
use Rattle.lambda_expr.specs.declared.lexeme.Numeral.TheVariants.{Places}
use Rattle.lambda_expr.specs.Grammar.{Shape, number, spells, Binds, IsExpression, Expression}
use Rattle.lambda_expr.specs.Reader.{wants, stuck, operates, shuts, reads, result_of}
use Rattle.lambda_expr.specs.SourceReading.{IsNext, Next, TakesMore}
use Rattle.lambda_expr.specs.Sources.{AreBound, Takes, further, listed}
use Rattle.lambda_expr.specs.Stops.{Begins, StopsAt}
use Rattle.lambda_expr.proofs.Frames.{binds_lower}
use Rattle.lambda_expr.proofs.Leads.{leads, one_expression, reads_back, stuck_begins_none, then_word}
use Rattle.lambda_expr.proofs.Sequences.{levi, stop_after_all, stop_at, stop_end}

-- a word that ends an operand
pub data Ends : Lexeme → Type 0 where
  comma : Ends (word.Sign sign.Comma)
  close : Ends word.Close

-- after an expression a word that ends an operand is stuck
ends_stuck : (e : Shape) (u : Lexeme) → Binds 1 e → Ends u → reads (wants []) (spells e ++ u ∷ []) ≡ stuck
ends_stuck e u b comma =
    let l = leads e [] b in
    then_word [] e l (word.Sign sign.Comma) [] (λ e. cc)
    ∙ ap (operates sign.Comma) (l.same 0 (omega arith) (binds_lower e 1 0 (omega arith) b))
ends_stuck e u b close =
    let l = leads e [] b in
    then_word [] e l word.Close [] (λ e. cc)
    ∙ ap shuts (l.same 0 (omega arith) (binds_lower e 1 0 (omega arith) b))

fewer : (c : List Lexeme) (w : Lexeme) (x : List Lexeme) → Begins Expression (c ++ w ∷ x)
    → Begins Expression (c ++ w ∷ [])
fewer c w x b = (x ++ b.0, subst Expression (append_assoc c (w ∷ x) b.0 ∙ sym (append_assoc c (w ∷ []) (x ++ b.0))) b.1)

pub ends_none : (e : Shape) (u : Lexeme) (x : List Lexeme) → Binds 1 e → Ends u → Begins Expression (spells e ++ u ∷ x)
    → ⊥
ends_none e u x b n h = stuck_begins_none (spells e ++ u ∷ []) (ends_stuck e u b n) (fewer (spells e) u x h)

-- further operands begin with a word that ends one
pub record Ended (ws : List Lexeme) : Type 0 where
  pub word : Lexeme
  pub rest : List Lexeme
  pub is : ws ≡ word ∷ rest
  pub ends : Ends word

pub further_ends : (es : List Shape) → Ended (further es)
further_ends [] = record { word = word.Close; rest = []; is = refl; ends = close }
further_ends (e ∷ es) = record { word = word.Sign sign.Comma; rest = spells e ++ further es; is = refl; ends = comma }

-- an operand ends where an expression does that the next word does not continue
by_levi : (e : Shape) (es : List Shape) (c : List Lexeme) (w : Lexeme) (m : List Lexeme) → Binds 1 e
    → Begins Expression c → (Begins Expression (c ++ w ∷ []) → ⊥)
    → ((x : List Lexeme) × (spells e ≡ c ++ x) × (w ∷ m ≡ x ++ further es))
    ⊎ ((y : List Lexeme) × (c ≡ spells e ++ y) × (further es ≡ y ++ w ∷ m)) → (spells e ≡ c) × (further es ≡ w ∷ m)
by_levi e es c w m b begins none (inl ([], s, t)) = (s ∙ append-nil c, sym t)
by_levi e es c w m b begins none (inl (u ∷ x, s, t)) =
    let same : w ≡ u = cc in
    absurd (none (fewer c w x (
      [],
      subst Expression
          (s ∙ ap (λ u. c ++ u ∷ x) (sym same) ∙ sym (append-nil (c ++ w ∷ x)))
          (e, record { binds = b; spelled = refl }),
    )))
by_levi e es c w m b begins none (inr ([], s, t)) = (sym (s ∙ append-nil (spells e)), t)
by_levi e es c w m b begins none (inr (u ∷ y, s, t)) =
    let f = further_ends es in
    let is = f.is in
    let same : f.word ≡ u = cc in
    absurd (ends_none e f.word y b f.ends
    (subst (Begins Expression) (s ∙ ap (λ u. spells e ++ u ∷ y) (sym same)) begins))

pub split : (e : Shape) (es : List Shape) (c : List Lexeme) (w : Lexeme) (m : List Lexeme) → Binds 1 e
    → Begins Expression c → (Begins Expression (c ++ w ∷ []) → ⊥) → spells e ++ further es ≡ c ++ w ∷ m
    → (spells e ≡ c) × (further es ≡ w ∷ m)
split e es c w m b begins none is = by_levi e es c w m b begins none (levi (spells e) (further es) c (w ∷ m) is)

-- ---- how many operands

abbrev zeros : ℕ → List Shape
zeros zero = []
zeros (suc k) = number (Places 0) ∷ zeros k

zeros_bound : (k : ℕ) → AreBound (zeros k)
zeros_bound zero = tt
zeros_bound (suc k) = (tt, zeros_bound k)

zeros_length : (k : ℕ) → length (zeros k) ≡ k
zeros_length zero = refl
zeros_length (suc k) = ap suc (zeros_length k)

more_yes : (s : StreamSource) (n : ℕ) → TakesMore s n → (k : ℕ) × Takes s (n + suc k)
more_yes source.Of n h = (0, tt)
more_yes source.Empty n h = absurd h
more_yes x n h = (1 - n, omega arith)

pub more_no : (s : StreamSource) (n k : ℕ) → (TakesMore s n → ⊥) → Takes s (n + suc k) → ⊥
more_no source.Of n k h t = h tt
more_no source.Empty n k h t = omega arith
more_no x n k h t = h (omega arith)

-- what begins an expression begins operands
next_begins : (s : StreamSource) (n : ℕ) (c : List Lexeme) → TakesMore s n → Begins Expression c → Begins (Next s n) c
next_begins s n c t b =
    let k = more_yes s n t in
    let es = zeros k.0 in (
      b.0 ++ further es,
      (
        b.1.0,
        es,
        record {
          count = subst (λ j. Takes s (n + suc j)) (sym (zeros_length k.0)) k.1;
          bound = (b.1.1.binds, zeros_bound k.0);
          spelled = ap (λ v. v ++ further es) b.1.1.spelled ∙ append_assoc c b.0 (further es);
        },
      ),
    )

-- ---- where operands stop

-- the words in front of a word that no expression goes on with
pub record IsCut (c : List Lexeme) (w : Lexeme) : Type 0 where
  pub begins : Begins Expression c
  pub none : Begins Expression (c ++ w ∷ []) → ⊥

-- nothing is an operand and its end there
pub stops_cut : (s : StreamSource) (n : ℕ) (c : List Lexeme) (w : Lexeme) (r : List Lexeme) → TakesMore s n → IsCut c w
    → ((e : Shape) (es : List Shape) (m : List Lexeme) → Takes s (n + suc (length es)) → IsExpression c e
    → further es ≡ w ∷ m → ⊥) → StopsAt (Next s n) (c ++ w ∷ r) (length c)
stops_cut s n c w r t cut dead = stop_at (Next s n) c w r (next_begins s n c t cut.begins) (λ m x.
    let p = split x.0 x.1 c w m x.2.bound.0 cut.begins cut.none x.2.spelled in
    dead x.0 x.1 m x.2.count (record { binds = x.2.bound.0; spelled = p.0 }) p.1)

-- the end of the words
pub stops_open : (s : StreamSource) (n : ℕ) (c : List Lexeme) → TakesMore s n → Begins Expression c
    → StopsAt (Next s n) c (length c)
stops_open s n c t b = stop_end (Next s n) c (next_begins s n c t b) (λ x.
    let f = further_ends x.1 in
    ends_none x.0 f.word f.rest x.2.bound.0 f.ends
    (subst (Begins Expression) (sym (ap (λ v. spells x.0 ++ v) (sym f.is) ∙ x.2.spelled)) b))

-- after a comma
comma_by : (s : StreamSource) (n : ℕ) (e : Shape) (es : List Shape) (m : List Lexeme) → Takes s (n + suc (length es))
    → AreBound es → further es ≡ word.Sign sign.Comma ∷ m → Next s (suc n) m
comma_by s n e [] m t b is = absurd cc
comma_by s n e (f ∷ es) m t b is = (
  f,
  es,
  record {
    count = subst (Takes s) (omega arith) t;
    bound = b;
    spelled = let k : spells f ++ further es ≡ m = cc in
        k;
  },
)

comma_to : (s : StreamSource) (n : ℕ) (c m : List Lexeme) → IsCut c (word.Sign sign.Comma)
    → Next s n (c ++ word.Sign sign.Comma ∷ m) → Next s (suc n) m
comma_to s n c m cut x =
    let p = split x.0 x.1 c (word.Sign sign.Comma) m x.2.bound.0 cut.begins cut.none x.2.spelled in
    comma_by s n x.0 x.1 m x.2.count x.2.bound.1 p.1

pub comma_from : (s : StreamSource) (n : ℕ) (c m : List Lexeme) (e f : Shape) (es : List Shape) → IsExpression c e
    → IsNext s (suc n) f es m → IsNext s n e (f ∷ es) (c ++ word.Sign sign.Comma ∷ m)
comma_from s n c m e f es x y = record {
  count = subst (Takes s) (omega arith) y.count;
  bound = (x.binds, y.bound);
  spelled = ap (λ v. v ++ word.Sign sign.Comma ∷ (spells f ++ further es)) x.spelled
      ∙ ap (λ v. c ++ word.Sign sign.Comma ∷ v) y.spelled;
}

pub stops_comma : (s : StreamSource) (n : ℕ) (c : List Lexeme) (r : List Lexeme) (e : Shape) (q : ℕ)
    → IsCut c (word.Sign sign.Comma) → IsExpression c e → StopsAt (Next s (suc n)) r q
    → StopsAt (Next s n) ((c ++ word.Sign sign.Comma ∷ []) ++ r) (length (c ++ word.Sign sign.Comma ∷ []) + q)
stops_comma s n c r e q cut x stops = stop_after_all (Next s n) (Next s (suc n)) (c ++ word.Sign sign.Comma ∷ []) r q
    (λ m y. comma_to s n c m cut (subst (Next s n) (append_assoc c (word.Sign sign.Comma ∷ []) m) y))
    (λ m y. subst (Next s n) (sym (append_assoc c (word.Sign sign.Comma ∷ []) m))
    (e, y.0 ∷ y.1, comma_from s n c m e y.0 y.1 x y.2)) stops

-- after a parenthesis that closes
pub whole_close : (s : StreamSource) (n : ℕ) (c : List Lexeme) (e : Shape) → Takes s (n + 1) → IsExpression c e
    → IsNext s n e [] (c ++ word.Close ∷ [])
whole_close s n c e t x = record {
  count = t;
  bound = (x.binds, tt);
  spelled = ap (λ v. v ++ word.Close ∷ []) x.spelled;
}

close_dead : (es : List Shape) (u : Lexeme) (m : List Lexeme) → further es ≡ word.Close ∷ (u ∷ m) → ⊥
close_dead [] u m h = cc
close_dead (e ∷ es) u m h = cc

pub stops_close : (s : StreamSource) (n : ℕ) (c : List Lexeme) (e : Shape) (u : Lexeme) (r : List Lexeme)
    → Takes s (n + 1) → IsCut c word.Close → IsExpression c e
    → StopsAt (Next s n) ((c ++ word.Close ∷ []) ++ u ∷ r) (length (c ++ word.Close ∷ []))
stops_close s n c e u r t cut x = stop_at (Next s n) (c ++ word.Close ∷ []) u r
    ([], (e, [], subst (IsNext s n e []) (sym (append-nil (c ++ word.Close ∷ []))) (whole_close s n c e t x))) (λ m y.
    let p = split y.0 y.1 c word.Close (u ∷ m) y.2.bound.0 cut.begins cut.none
    (y.2.spelled ∙ append_assoc c (word.Close ∷ []) (u ∷ m)) in
    close_dead y.1 u m p.1)

-- ---- one list of operands

-- the first of them
one_first : (e f : Shape) (es fs : List Shape) → Binds 1 e → Binds 1 f
    → ((x : List Lexeme) × (spells e ≡ spells f ++ x) × (further fs ≡ x ++ further es))
    ⊎ ((y : List Lexeme) × (spells f ≡ spells e ++ y) × (further es ≡ y ++ further fs))
    → (e ≡ f) × (further es ≡ further fs)
one_first e f es fs b d (inl ([], s, t)) = (
  one_expression (spells f) e f (record { binds = b; spelled = s ∙ append-nil (spells f) })
      (record { binds = d; spelled = refl }),
  sym t,
)
one_first e f es fs b d (inl (u ∷ x, s, t)) =
    let g = further_ends fs in
    let is = g.is in
    let same : g.word ≡ u = cc in
    absurd (ends_none f g.word x d g.ends (
      [],
      subst Expression (s ∙ ap (λ u. spells f ++ u ∷ x) (sym same) ∙ sym (append-nil (spells f ++ g.word ∷ x)))
          (e, record { binds = b; spelled = refl }),
    ))
one_first e f es fs b d (inr ([], s, t)) = (
  one_expression (spells f) e f (record { binds = b; spelled = sym (s ∙ append-nil (spells e)) })
      (record { binds = d; spelled = refl }),
  t,
)
one_first e f es fs b d (inr (u ∷ y, s, t)) =
    let g = further_ends es in
    let is = g.is in
    let same : g.word ≡ u = cc in
    absurd (ends_none e g.word y b g.ends (
      [],
      subst Expression (s ∙ ap (λ u. spells e ++ u ∷ y) (sym same) ∙ sym (append-nil (spells e ++ g.word ∷ y)))
          (f, record { binds = d; spelled = refl }),
    ))

one_further : (es fs : List Shape) → AreBound es → AreBound fs → further es ≡ further fs → es ≡ fs
one_further [] [] b d is = refl
one_further (e ∷ es) (f ∷ fs) b d is =
    let k : spells e ++ further es ≡ spells f ++ further fs = cc in
    let p = one_first e f es fs b.0 d.0 (levi (spells e) (further es) (spells f) (further fs) k) in
    let later = one_further es fs b.1 d.1 p.1 in
    let first = p.0 in
    cc
one_further x y b d is = absurd cc

-- no expression begins with the parenthesis that closes
never_empty : (e : Shape) (b : Binds 1 e) → spells e ≡ [] → ⊥
never_empty e b is = let k = reads_back e b in
    let j : result_of (reads (wants []) (spells e)) ≡ None = ap (λ v. result_of (reads (wants []) v)) is in cc

not_split : (e : Shape) (us y : List Lexeme) → Binds 1 e → spells e ≡ us → word.Close ∷ [] ≡ us ++ y → ⊥
not_split e [] y b s t = never_empty e b s
not_split e (u ∷ us) y b s t =
    let same : u ≡ word.Close = cc in
    stuck_begins_none (word.Close ∷ []) refl (us, (e, record { binds = b; spelled = s ∙ ap (λ u. u ∷ us) same }))

not_whole : (e : Shape) (y : List Lexeme) → Binds 1 e → word.Close ∷ [] ≡ spells e ++ y → ⊥
not_whole e y b t = not_split e (spells e) y b refl t

not_by : (e : Shape) (ws vs : List Lexeme) → Binds 1 e
    → ((x : List Lexeme) × (spells e ≡ word.Close ∷ [] ++ x) × (vs ≡ x ++ ws))
    ⊎ ((y : List Lexeme) × (word.Close ∷ [] ≡ spells e ++ y) × (ws ≡ y ++ vs)) → ⊥
not_by e ws vs b (inl (x, s, t)) = stuck_begins_none (word.Close ∷ []) refl (x, (e, record { binds = b; spelled = s }))
not_by e ws vs b (inr (y, s, t)) = not_whole e y b s

pub not_close : (e : Shape) (ws vs : List Lexeme) → Binds 1 e → spells e ++ ws ≡ word.Close ∷ vs → ⊥
not_close e ws vs b is =
    not_by e ws vs b (levi (spells e) ws (word.Close ∷ []) vs is)

pub one_list : (es fs : List Shape) → AreBound es → AreBound fs → listed es ≡ listed fs → es ≡ fs
one_list [] [] b d is = refl
one_list [] (f ∷ fs) b d is = absurd (not_close f (further fs) [] d.0 (sym is))
one_list (e ∷ es) [] b d is = absurd (not_close e (further es) [] b.0 is)
one_list (e ∷ es) (f ∷ fs) b d is =
    let p = one_first e f es fs b.0 d.0 (levi (spells e) (further es) (spells f) (further fs) is) in
    let later = one_further es fs b.1 d.1 p.1 in
    let first = p.0 in
    cc

-- ---- by places

pub in_words : (ws : List Lexeme) (k : ℕ) (d : Lexeme) → k < length ws
    → take k ws ++ get_or ws k d ∷ drop (k + 1) ws ≡ ws
in_words ws k d lt = sym (append_assoc (take k ws) (get_or ws k d ∷ []) (drop (k + 1) ws))
    ∙ ap (λ v. v ++ drop (k + 1) ws) (sym (take_more ws k d lt)) ∙ take-append-drop (k + 1) ws

pub long : {W : Type 0} (ws : List W) (k : ℕ) → k ≤ length ws → length (take k ws) ≡ k
long ws zero h = refl
long [] (suc k) h = absurd (omega arith)
long (w ∷ ws) (suc k) h = ap suc (long ws k (omega arith))

pub cut_at : (ws : List Lexeme) (k : ℕ) (d : Lexeme) → StopsAt Expression ws k → k < length ws
    → IsCut (take k ws) (get_or ws k d)
cut_at ws k d s lt = record {
  begins = s.begins;
  none = λ b. s.stops lt (subst (Begins Expression) (sym (take_more ws k d lt)) b);
}

pub at_place : (G : List Lexeme → Type 0) (ws : List Lexeme) (k : ℕ) (d : Lexeme) → k < length ws
    → StopsAt G (take k ws ++ get_or ws k d ∷ drop (k + 1) ws) (length (take k ws)) → StopsAt G ws k
at_place G ws k d lt s = subst (StopsAt G ws) (long ws k (omega arith))
    (subst (λ v. StopsAt G v (length (take k ws))) (in_words ws k d lt) s)

-- the words in front of the place where an expression stops are none
pub no_front : (ws : List Lexeme) (k : ℕ) (s : StreamSource) (n : ℕ) → TakesMore s n → k < length ws
    → StopsAt Expression ws k → (Expression (take k ws) → ⊥) → StopsAt (Next s n) ws k
no_front ws k s n t lt stops none = at_place (Next s n) ws k word.Open lt
    (stops_cut s n (take k ws) (get_or ws k word.Open) (drop (k + 1) ws) t (cut_at ws k word.Open stops lt)
    (λ e es m count x is. none (e, x)))

pub no_end : (ws : List Lexeme) (k : ℕ) (s : StreamSource) (n : ℕ) → TakesMore s n → length ws ≤ k
    → StopsAt Expression ws k → StopsAt (Next s n) ws (length ws)
no_end ws k s n t le stops = stops_open s n ws t (subst (Begins Expression) (take_all k ws le) stops.begins)

pub only_one : (ws : List Lexeme) (e : Shape) (s : StreamSource) (n : ℕ) → TakesMore s n → IsExpression ws e
    → StopsAt (Next s n) ws (length ws)
only_one ws e s n t x = stops_open s n ws t ([], subst Expression (sym (append-nil ws)) (e, x))
