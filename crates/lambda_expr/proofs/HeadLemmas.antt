-- The head of a lambda is read, and where its words stop.
use Rattle.std.proofs.Common.{◌≡◌, ◌≢◌, ◌⊎◌, inl, inr, ℕ, zero, suc, ◌+◌, ◌<◌, ◌≤◌, max, nat_eq, Bool, true, false}
use Rattle.std.proofs.Common.{List, [], ◌∷◌, ◌++◌, length, take, drop, get_or, Result, Ok, Err, Some, refl, sym, ap}
use Rattle.std.proofs.Common.{subst, ◌∙◌, append_assoc, arith}
use Rattle.std.proofs.lemmas.Grind.{common_steps}
use Rattle.std.proofs.lemmas.List.{take-append-drop, drop_more, drop_all}
use Rattle.std.proofs.str.Laws.{order}
use Rattle.std.specs.Prelude.{if◌then◌else◌}
use Rattle.lambda_expr.specs.declared.head.HeadMark.{HeadMark}
use Rattle.lambda_expr.specs.declared.head.HeadMark.TheVariants as mark
use Rattle.lambda_expr.specs.declared.lexeme.Lexeme.{Lexeme}
use Rattle.lambda_expr.specs.declared.lexeme.Lexeme.TheVariants as word
use Rattle.lambda_expr.specs.declared.table.Member.TheVariants.{Other}
use Rattle.lambda_expr.specs.declared.lexeme.Name.TheVariants.{Plain, LowerLong}
use Rattle.lambda_expr.specs.declared.sign.Sign.TheVariants.{Comma}
use Rattle.lambda_expr.specs.HeadReading.{IsMatched, AreTried, further}
use Rattle.lambda_expr.specs.Heads.{mark_of, Fit, IsOneOf, HasHead}
use Rattle.lambda_expr.specs.Stops.{Begins, StopsAt}

-- ---- one pattern

matched_within : (p : List HeadMark) (ws : List Lexeme) (n : ℕ) → IsMatched p ws n → n ≤ length ws
matched_within (x ∷ p) (w ∷ ws) (suc n) m = let k = matched_within p ws n m.1 in omega arith
matched_within y ws n m = omega arith

-- the words of a whole pattern
matched_fit : (p : List HeadMark) (ws : List Lexeme) (n : ℕ) → IsMatched p ws n → n ≡ length p → Fit p (take n ws)
matched_fit [] ws n m is = subst (λ k. Fit [] (take k ws)) (sym is) tt
matched_fit (x ∷ p) (w ∷ ws) (suc n) m is = (m.0, matched_fit p ws n m.1 (omega arith))
matched_fit (x ∷ p) y n m is = absurd (omega arith)

-- words that don't begin with the whole pattern
matched_short : (p : List HeadMark) (ws front rest : List Lexeme) (n : ℕ) → IsMatched p ws n → n ≢ length p
    → Fit p front → front ++ rest ≡ ws → ⊥
matched_short [] ws [] rest n m short f is = short m
matched_short (x ∷ p) [] (v ∷ front) rest n m short f is = absurd cc
matched_short (x ∷ p) (w ∷ ws) (v ∷ front) rest zero m short f is =
    m (let same : v ≡ w = cc in ap mark_of (sym same) ∙ f.0)
matched_short (x ∷ p) (w ∷ ws) (v ∷ front) rest (suc n) m short f is =
    matched_short p ws front rest n m.1 (λ e. short (ap suc e)) f.1 (let same : front ++ rest ≡ ws = cc in same)
matched_short y ws q rest n m short f is = f

-- a match goes no further than the words that it reads
matched_before : (p : List HeadMark) (ws more : List Lexeme) (n k : ℕ) → IsMatched p ws n → n < k → k ≤ length ws
    → IsMatched p (take k ws ++ more) n
matched_before (x ∷ p) [] more n k m lt le = absurd (omega arith)
matched_before (x ∷ p) (w ∷ ws) more n zero m lt le = absurd (omega arith)
matched_before (x ∷ p) (w ∷ ws) more (suc n) (suc k) m lt le =
    (m.0, matched_before p ws more n k m.1 (omega arith) (omega arith))
matched_before y ws more n k m lt le = m

-- a word for each mark
abbrev sample : HeadMark → Lexeme
sample (mark.Parameter n) = word.Name (Plain (record { number = n; member = Other }))
sample mark.LowerLong = word.Name LowerLong
sample mark.Open = word.Open
sample mark.Comma = word.Sign Comma
sample mark.Close = word.Close
sample mark.Arrow = word.Arrow

sample_fits : (m : HeadMark) → mark_of (sample m) ≡ Some m
sample_fits (mark.Parameter n) = refl
sample_fits x = refl

-- what completes the words that match
abbrev completion : List HeadMark → ℕ → List Lexeme
completion [] k = []
completion (m ∷ ms) zero = sample m ∷ completion ms zero
completion (m ∷ ms) (suc k) = completion ms k

all_samples : (p : List HeadMark) → Fit p (completion p zero)
all_samples [] = tt
all_samples (x ∷ p) = (sample_fits x, all_samples p)

completes : (p : List HeadMark) (ws : List Lexeme) (n k : ℕ) → IsMatched p ws n → k ≤ n
    → Fit p (take k ws ++ completion p k)
completes [] ws n k m le = let none_left : k ≡ 0 = omega arith in
    subst (λ k. Fit [] (take k ws ++ [])) (sym none_left) tt
completes (x ∷ p) [] n k m le = let none_left : k ≡ 0 = omega arith in
    subst (λ k. Fit (x ∷ p) (take k [] ++ completion (x ∷ p) k)) (sym none_left) (sample_fits x, all_samples p)
completes (x ∷ p) (w ∷ ws) n zero m le = (sample_fits x, all_samples p)
completes (x ∷ p) (w ∷ ws) zero (suc k) m le = absurd (omega arith)
completes (x ∷ p) (w ∷ ws) (suc n) (suc k) m le = (m.0, completes p ws n k m.1 (omega arith))

-- ---- one of several patterns

abbrev IsEqual : ℕ → ℕ → Bool → Type 0
IsEqual m n true = m ≡ n
IsEqual m n false = m ≢ n

equal_yes : (m n : ℕ) → nat_eq m n ≡ true → m ≡ n
equal_yes m n h = grind (arith, common_steps)

equal_no : (m n : ℕ) → nat_eq m n ≡ false → m ≢ n
equal_no m n h e = let same : nat_eq m m ≡ false = ap (nat_eq m) e ∙ h in grind (arith, common_steps)

equal_by : (m n : ℕ) (b : Bool) → nat_eq m n ≡ b → IsEqual m n b
equal_by m n true h = equal_yes m n h
equal_by m n false h = equal_no m n h

is_equal : (m n : ℕ) → IsEqual m n (nat_eq m n)
is_equal m n = equal_by m n (nat_eq m n) refl

-- the words begin with one of the patterns
pub record Begun (ps : List (List HeadMark)) (ws : List Lexeme) (n : ℕ) : Type 0 where
  pub pattern : List HeadMark
  pub listed : IsOneOf pattern ps
  pub fit : Fit pattern (take n ws)
  pub within : n ≤ length ws

later_begun : (p : List HeadMark) (ps : List (List HeadMark)) (ws : List Lexeme) (n : ℕ) → Begun ps ws n
    → Begun (p ∷ ps) ws n
later_begun p ps ws n b = record { pattern = b.pattern; listed = inr b.listed; fit = b.fit; within = b.within }

begun_first : (p : List HeadMark) (ps : List (List HeadMark)) (ws : List Lexeme) (k n : ℕ) (other : Result ℕ ℕ)
    (b : Bool) → IsEqual k (length p) b → IsMatched p ws k → (if b then Ok k else further k other) ≡ Ok n
    → (other ≡ Ok n → Begun ps ws n) → Begun (p ∷ ps) ws n
begun_first p ps ws k n other true e m is later =
    let same : k ≡ n = cc in
    subst (Begun (p ∷ ps) ws) same (record
    { pattern = p; listed = inl refl; fit = matched_fit p ws k m e; within = matched_within p ws k m })
begun_first p ps ws k n (Ok j) false e m is later = later_begun p ps ws n (later is)
begun_first p ps ws k n (Err j) false e m is later = absurd cc

pub begun : (ps : List (List HeadMark)) (ws : List Lexeme) (r : Result ℕ ℕ) (n : ℕ) → AreTried ps ws r → r ≡ Ok n
    → Begun ps ws n
begun [] ws r n t is = absurd (let e : Err 0 ≡ Ok n = sym t ∙ is in cc)
begun (p ∷ ps) ws r n t is = begun_first p ps ws t.1.0 n t.0 (nat_eq t.1.0 (length p)) (is_equal t.1.0 (length p)) t.1.1
    (sym t.1.2 ∙ is) (λ e. begun ps ws t.0 n t.2 e)

-- the words begin with none of the patterns, and match none beyond this place
abbrev Stuck : List (List HeadMark) → List Lexeme → ℕ → Type 0
Stuck [] ws n = Unit {0}
Stuck (p ∷ ps) ws n = ((k : ℕ) × IsMatched p ws k × (k ≤ n) × (k ≢ length p)) × Stuck ps ws n

-- they match one up to there
pub record Reached (ps : List (List HeadMark)) (ws : List Lexeme) (n : ℕ) : Type 0 where
  pub pattern : List HeadMark
  pub listed : IsOneOf pattern ps
  pub far : ℕ
  pub matched : IsMatched pattern ws far
  pub enough : n ≤ far

stuck_later : (ps : List (List HeadMark)) (ws : List Lexeme) (m n : ℕ) → m ≤ n → Stuck ps ws m → Stuck ps ws n
stuck_later [] ws m n le s = tt
stuck_later (p ∷ ps) ws m n le s = let low = s.0.2 in ((s.0.0, s.0.1, omega arith, s.0.3), stuck_later ps ws m n le s.1)

-- where a search among patterns ends
abbrev Ended : List (List HeadMark) → List Lexeme → ℕ → Type 0
Ended ps ws n = Stuck ps ws n × ((n ≡ 0) ⊎ Reached ps ws n) × (n ≤ length ws)

reached_either : (p : List HeadMark) (ps : List (List HeadMark)) (ws : List Lexeme) (k j n : ℕ) → IsMatched p ws k
    → n ≡ max k j → Reached ps ws j → (k < j) ⊎ (j ≤ k) → (n ≡ 0) ⊎ Reached (p ∷ ps) ws n
reached_either p ps ws k j n m is r (inl lt) = let far = r.enough in let e : n ≤ r.far = omega arith in
    inr (record { pattern = r.pattern; listed = inr r.listed; far = r.far; matched = r.matched; enough = e })
reached_either p ps ws k j n m is r (inr ge) = let e : n ≤ k = omega arith in
    inr (record { pattern = p; listed = inl refl; far = k; matched = m; enough = e })

reached_more : (p : List HeadMark) (ps : List (List HeadMark)) (ws : List Lexeme) (k j n : ℕ) → IsMatched p ws k
    → n ≡ max k j → (j ≡ 0) ⊎ Reached ps ws j → (n ≡ 0) ⊎ Reached (p ∷ ps) ws n
reached_more p ps ws k j n m is (inl z) = let e : n ≤ k = omega arith in
    inr (record { pattern = p; listed = inl refl; far = k; matched = m; enough = e })
reached_more p ps ws k j n m is (inr r) = reached_either p ps ws k j n m is r (order k j)

ended_first : (p : List HeadMark) (ps : List (List HeadMark)) (ws : List Lexeme) (k n : ℕ) (other : Result ℕ ℕ)
    (b : Bool) → IsEqual k (length p) b → IsMatched p ws k → (if b then Ok k else further k other) ≡ Err n
    → ((j : ℕ) → other ≡ Err j → Ended ps ws j) → Ended (p ∷ ps) ws n
ended_first p ps ws k n other true e m is later = absurd cc
ended_first p ps ws k n (Ok j) false e m is later = absurd cc
ended_first p ps ws k n (Err j) false e m is later =
    let same : n ≡ max k j = cc in
    let o = later j refl in
    let within = matched_within p ws k m in
    let low = o.2 in
    let most : j ≤ n = omega arith in
    let here : k ≤ n = omega arith in
    (((k, m, here, e), stuck_later ps ws j n most o.0), reached_more p ps ws k j n m same o.1, omega arith)

pub ended : (ps : List (List HeadMark)) (ws : List Lexeme) (r : Result ℕ ℕ) (n : ℕ) → AreTried ps ws r → r ≡ Err n
    → Ended ps ws n
ended [] ws r n t is = let e : n ≡ 0 = (let same : Err n ≡ Err 0 = sym is ∙ t in cc) in (tt, inl e, omega arith)
ended (p ∷ ps) ws r n t is = ended_first p ps ws t.1.0 n t.0 (nat_eq t.1.0 (length p)) (is_equal t.1.0 (length p)) t.1.1
    (sym t.1.2 ∙ is) (λ j e. ended ps ws t.0 j t.2 e)

-- ---- the words of a head and what follows

-- something may stand after each head
abbrev pub Follows : (List Lexeme → List Lexeme → Type 0) → Type 0
Follows after = (front : List Lexeme) → (rest : List Lexeme) × after front rest

stuck_out : (ps : List (List HeadMark)) (ws front rest : List Lexeme) (n : ℕ) (p : List HeadMark) → Stuck ps ws n
    → IsOneOf p ps → Fit p front → front ++ rest ≡ ws → ⊥
stuck_out [] ws front rest n p s o f is = o
stuck_out (q ∷ ps) ws front rest n p s (inl e) f is =
    matched_short q ws front rest s.0.0 s.0.1 s.0.3 (subst (λ p. Fit p front) e f) is
stuck_out (q ∷ ps) ws front rest n p s (inr o) f is = stuck_out ps ws front rest n p s.1 o f is

stuck_before : (ps : List (List HeadMark)) (ws more : List Lexeme) (n : ℕ) → n < length ws → Stuck ps ws n
    → Stuck ps (take (n + 1) ws ++ more) n
stuck_before [] ws more n lt s = tt
stuck_before (p ∷ ps) ws more n lt s =
    let low = s.0.2 in (
      (s.0.0, matched_before p ws more s.0.0 (n + 1) s.0.1 (omega arith) (omega arith), s.0.2, s.0.3),
      stuck_before ps ws more n lt s.1,
    )

head_out : (ps : List (List HeadMark)) (after : List Lexeme → List Lexeme → Type 0) (ws : List Lexeme) (n : ℕ)
    → Stuck ps ws n → HasHead ps after ws → ⊥
head_out ps after ws n s h = stuck_out ps ws h.front h.rest n h.pattern s h.listed h.fit h.spelled

begins_reached : (ps : List (List HeadMark)) (after : List Lexeme → List Lexeme → Type 0) (ws : List Lexeme) (n : ℕ)
    → Follows after → Reached ps ws n → Begins (HasHead ps after) (take n ws)
begins_reached ps after ws n f r =
    let front = take n ws ++ completion r.pattern n in
    let next = f front in (
      completion r.pattern n ++ next.0,
      record {
        pattern = r.pattern;
        listed = r.listed;
        front = front;
        fit = completes r.pattern ws r.far n r.matched r.enough;
        rest = next.0;
        spelled = append_assoc (take n ws) (completion r.pattern n) next.0;
        stands = next.1;
      },
    )

begins_ended : (p : List HeadMark) (ps : List (List HeadMark)) (after : List Lexeme → List Lexeme → Type 0)
    (ws : List Lexeme) (n : ℕ) → Follows after → Stuck (p ∷ ps) ws n → (n ≡ 0) ⊎ Reached (p ∷ ps) ws n
    → Begins (HasHead (p ∷ ps) after) (take n ws)
begins_ended p ps after ws n f s (inl z) =
    begins_reached (p ∷ ps) after ws n f
    (record { pattern = p; listed = inl refl; far = s.0.0; matched = s.0.1; enough = omega arith })
begins_ended p ps after ws n f s (inr r) = begins_reached (p ∷ ps) after ws n f r

-- where heads stop
pub head_stops : (p : List HeadMark) (ps : List (List HeadMark)) (after : List Lexeme → List Lexeme → Type 0)
    (ws : List Lexeme) (n : ℕ) → Follows after → Ended (p ∷ ps) ws n → StopsAt (HasHead (p ∷ ps) after) ws n
head_stops p ps after ws n f e = record {
  within = e.2;
  outside = head_out (p ∷ ps) after ws n e.0;
  begins = begins_ended p ps after ws n f e.0 e.1;
  stops = λ lt b. head_out (p ∷ ps) after (take (n + 1) ws ++ b.0) n (stuck_before (p ∷ ps) ws b.0 n lt e.0) b.1;
}

-- ---- words have one head

-- of two patterns whose words begin one text one begins the other
abbrev Longer : List HeadMark → List HeadMark → Type 0
Longer p q = (t : List HeadMark) × (q ≡ p ++ t)

longer_by : (m n : HeadMark) (p q : List HeadMark) → m ≡ n → Longer p q ⊎ Longer q p
    → Longer (m ∷ p) (n ∷ q) ⊎ Longer (n ∷ q) (m ∷ p)
longer_by m n p q same (inl l) = inl (l.0, ap (λ k. k ∷ q) (sym same) ∙ ap (λ v. m ∷ v) l.1)
longer_by m n p q same (inr l) = inr (l.0, ap (λ k. k ∷ p) same ∙ ap (λ v. n ∷ v) l.1)

one_begins : (p q : List HeadMark) (f g r s : List Lexeme) → Fit p f → Fit q g → f ++ r ≡ g ++ s
    → Longer p q ⊎ Longer q p
one_begins [] q f g r s x y is = inl (q, refl)
one_begins (m ∷ p) [] f g r s x y is = inr (m ∷ p, refl)
one_begins (m ∷ p) (n ∷ q) [] g r s x y is = absurd x
one_begins (m ∷ p) (n ∷ q) (v ∷ f) [] r s x y is = absurd y
one_begins (m ∷ p) (n ∷ q) (v ∷ f) (w ∷ g) r s x y is =
    let word : v ≡ w = cc in
    let rest : f ++ r ≡ g ++ s = cc in
    let same : m ≡ n = (let e : Some m ≡ Some n = sym x.0 ∙ ap mark_of word ∙ y.0 in cc) in
    longer_by m n p q same (one_begins p q f g r s x.1 y.1 rest)

-- one pattern has one word for each mark
one_front : (p : List HeadMark) (f g r s : List Lexeme) → Fit p f → Fit p g → f ++ r ≡ g ++ s → (f ≡ g) × (r ≡ s)
one_front [] [] [] r s x y is = (refl, is)
one_front [] (v ∷ f) g r s x y is = absurd x
one_front (m ∷ p) [] g r s x y is = absurd x
one_front (m ∷ p) (v ∷ f) (w ∷ g) r s x y is =
    let word : v ≡ w = cc in
    let rest : f ++ r ≡ g ++ s = cc in
    let later = one_front p f g r s x.1 y.1 rest in
    (ap (λ v. v ∷ f) word ∙ ap (λ f. w ∷ f) later.0, later.1)
one_front q u z r s x y is = absurd y

-- no pattern begins another
abbrev pub AreApart : List (List HeadMark) → Type 0
AreApart ps = (p q : List HeadMark) → IsOneOf p ps → IsOneOf q ps → Longer p q → p ≡ q

one_pattern : (ps : List (List HeadMark)) (p q : List HeadMark) → AreApart ps → IsOneOf p ps → IsOneOf q ps
    → Longer p q ⊎ Longer q p → p ≡ q
one_pattern ps p q a x y (inl l) = a p q x y l
one_pattern ps p q a x y (inr l) = sym (a q p y x l)

pub one_head : (ps : List (List HeadMark)) (p q : List HeadMark) (f g r s : List Lexeme) → AreApart ps → IsOneOf p ps
    → IsOneOf q ps → Fit p f → Fit q g → f ++ r ≡ g ++ s → (f ≡ g) × (r ≡ s)
one_head ps p q f g r s a x y m n is =
    let same = one_pattern ps p q a x y (one_begins p q f g r s m n is) in
    one_front p f g r s m (subst (λ q. Fit q g) (sym same) n) is

-- ---- where what follows stops

take_past : (hs vs : List Lexeme) (k : ℕ) → take (length hs + k) (hs ++ vs) ≡ hs ++ take k vs
take_past [] vs k = let e : 0 + k ≡ k = omega arith in ap (λ n. take n vs) e
take_past (a ∷ hs) vs k = let e : suc (length hs) + k ≡ suc (length hs + k) = omega arith in
    ap (λ n. take n (a ∷ (hs ++ vs))) e ∙ ap (λ v. a ∷ v) (take_past hs vs k)

length_past : (hs vs : List Lexeme) → length (hs ++ vs) ≡ length hs + length vs
length_past [] vs = omega arith
length_past (a ∷ hs) vs = let e = length_past hs vs in omega arith

pub record Headed (ps : List (List HeadMark)) (front : List Lexeme) : Type 0 where
  pub pattern : List HeadMark
  pub listed : IsOneOf pattern ps
  pub fit : Fit pattern front

after_of : (ps : List (List HeadMark)) (after : List Lexeme → List Lexeme → Type 0) (front rest : List Lexeme)
    → AreApart ps → Headed ps front → HasHead ps after (front ++ rest) → after front rest
after_of ps after front rest a h l =
    let same = one_head ps l.pattern h.pattern l.front front l.rest rest a l.listed h.listed l.fit h.fit l.spelled in
    subst (λ v. after v rest) same.0 (subst (after l.front) same.1 l.stands)

pub headed : (ps : List (List HeadMark)) (after : List Lexeme → List Lexeme → Type 0) (front rest ws : List Lexeme)
    → Headed ps front → front ++ rest ≡ ws → after front rest → HasHead ps after ws
headed ps after front rest ws h is s = record
    { pattern = h.pattern; listed = h.listed; front = front; fit = h.fit; rest = rest; spelled = is; stands = s }

pub stops_after : (ps : List (List HeadMark)) (after : List Lexeme → List Lexeme → Type 0) (hs vs : List Lexeme) (k : ℕ)
    → AreApart ps → Headed ps hs → StopsAt (after hs) vs k → StopsAt (HasHead ps after) (hs ++ vs) (length hs + k)
stops_after ps after hs vs k a h s =
    let total = length_past hs vs in
    let lt = s.within in
    record {
      within = omega arith;
      outside = λ l. s.outside (after_of ps after hs vs a h l);
      begins = subst (Begins (HasHead ps after)) (sym (take_past hs vs k)) (
        s.begins.0,
        headed ps after hs (take k vs ++ s.begins.0) ((hs ++ take k vs) ++ s.begins.0) h
            (sym (append_assoc hs (take k vs) s.begins.0)) s.begins.1,
      );
      stops = λ more b.
          let one : length hs + k + 1 ≡ length hs + (k + 1) = omega arith in
          let cut : take (length hs + k + 1) (hs ++ vs) ≡ hs ++ take (k + 1) vs =
          ap (λ n. take n (hs ++ vs)) one ∙ take_past hs vs (k + 1) in
          s.stops (omega arith) (
            b.0,
            after_of ps after hs (take (k + 1) vs ++ b.0) a h
                (subst (HasHead ps after) (ap (λ v. v ++ b.0) cut ∙ append_assoc hs (take (k + 1) vs) b.0) b.1),
          );
    }

length_cut : (n : ℕ) (ws : List Lexeme) → n ≤ length ws → length (take n ws) ≡ n
length_cut zero ws h = refl
length_cut (suc n) [] h = absurd (omega arith)
length_cut (suc n) (w ∷ ws) h = let k : n ≤ length ws = omega arith in ap suc (length_cut n ws k)

abbrev pub front_of : (ps : List (List HeadMark)) (ws : List Lexeme) (n : ℕ) → Begun ps ws n → Headed ps (take n ws)
front_of ps ws n b = record { pattern = b.pattern; listed = b.listed; fit = b.fit }

-- where the words after a head stop, the whole stops
pub stops_in_rest : (ps : List (List HeadMark)) (after : List Lexeme → List Lexeme → Type 0) (ws : List Lexeme)
    (n k : ℕ) → AreApart ps → Begun ps ws n → StopsAt (after (take n ws)) (drop n ws) k
    → StopsAt (HasHead ps after) ws (n + k)
stops_in_rest ps after ws n k a b s =
    let there = subst (λ m. StopsAt (HasHead ps after) (take n ws ++ drop n ws) (m + k)) (length_cut n ws b.within)
    (stops_after ps after (take n ws) (drop n ws) k a (front_of ps ws n b) s) in
    subst (λ v. StopsAt (HasHead ps after) v (n + k)) (take-append-drop n ws) there

pub whole_of : (ps : List (List HeadMark)) (after : List Lexeme → List Lexeme → Type 0) (ws : List Lexeme) (n : ℕ)
    → Begun ps ws n → after (take n ws) (drop n ws) → HasHead ps after ws
whole_of ps after ws n b s = headed ps after (take n ws) (drop n ws) ws (front_of ps ws n b) (take-append-drop n ws) s

-- ---- the loop over the marks of one pattern

pub matched_on : (p : List HeadMark) (ws : List Lexeme) (at : ℕ) (d : HeadMark) (e : Lexeme) → at < length p
    → at < length ws → mark_of (get_or ws at e) ≡ Some (get_or p at d)
    → ((k : ℕ) → IsMatched (drop at p) (drop at ws) k → IsMatched p ws (at + k)) → (k : ℕ)
    → IsMatched (drop (at + 1) p) (drop (at + 1) ws) k → IsMatched p ws (at + 1 + k)
matched_on p ws at d e lp lw fit h k n =
    let one : at + suc k ≡ at + 1 + k = omega arith in
    subst (IsMatched p ws) one (h (suc k)
    (subst (λ q. IsMatched q (drop at ws) (suc k)) (sym (drop_more p at d lp))
    (subst (λ v. IsMatched (get_or p at d ∷ drop (at + 1) p) v (suc k)) (sym (drop_more ws at e lw)) (fit, n))))

pub matched_stop : (p : List HeadMark) (ws : List Lexeme) (at : ℕ) (d : HeadMark) (e : Lexeme) → at < length p
    → at < length ws → mark_of (get_or ws at e) ≢ Some (get_or p at d)
    → ((k : ℕ) → IsMatched (drop at p) (drop at ws) k → IsMatched p ws (at + k)) → IsMatched p ws at
matched_stop p ws at d e lp lw off h =
    let none_more : at + 0 ≡ at = omega arith in
    subst (IsMatched p ws) none_more (h 0
    (subst (λ q. IsMatched q (drop at ws) 0) (sym (drop_more p at d lp))
    (subst (λ v. IsMatched (get_or p at d ∷ drop (at + 1) p) v 0) (sym (drop_more ws at e lw)) off)))

no_marks : (ws : List Lexeme) → IsMatched [] ws 0
no_marks ws = refl

no_words : (p : List HeadMark) → IsMatched p [] 0
no_words [] = refl
no_words (m ∷ p) = refl

pub matched_marks : (p : List HeadMark) (ws : List Lexeme) (at : ℕ) → length p ≤ at
    → ((k : ℕ) → IsMatched (drop at p) (drop at ws) k → IsMatched p ws (at + k)) → IsMatched p ws at
matched_marks p ws at past h =
    let none_more : at + 0 ≡ at = omega arith in
    subst (IsMatched p ws) none_more (h 0
    (subst (λ q. IsMatched q (drop at ws) 0) (sym (drop_all at p past)) (no_marks (drop at ws))))

pub matched_words : (p : List HeadMark) (ws : List Lexeme) (at : ℕ) → length ws ≤ at
    → ((k : ℕ) → IsMatched (drop at p) (drop at ws) k → IsMatched p ws (at + k)) → IsMatched p ws at
matched_words p ws at past h =
    let none_more : at + 0 ≡ at = omega arith in
    subst (IsMatched p ws) none_more (h 0
    (subst (λ v. IsMatched (drop at p) v 0) (sym (drop_all at ws past)) (no_words (drop at p))))

matched_most : (p : List HeadMark) (ws : List Lexeme) (n : ℕ) → IsMatched p ws n → n ≤ length p
matched_most (x ∷ p) (w ∷ ws) (suc n) m = let k = matched_most p ws n m.1 in omega arith
matched_most y ws n m = omega arith

pub matched_whole : (p : List HeadMark) (ws : List Lexeme) (at : ℕ) → length p ≤ at
    → ((k : ℕ) → IsMatched (drop at p) (drop at ws) k → IsMatched p ws (at + k)) → IsMatched p ws (length p)
matched_whole p ws at past h =
    let m = matched_marks p ws at past h in
    let same : at ≡ length p = omega (arith, matched_most p ws at m) in
    subst (IsMatched p ws) same m
