-- Where words stop, for a grammar that is another one after some words.
use Rattle.std.proofs.Common.{◌≡◌, inl, inr, ◌⊎◌, ℕ, suc, ◌+◌, ◌<◌, List, [], ◌∷◌, ◌++◌, length, take, refl, sym, ap}
use Rattle.std.proofs.Common.{subst, ◌∙◌, append_assoc, arith}
use Rattle.std.proofs.lemmas.List.{take_all}
use Rattle.lambda_expr.specs.Stops.{Begins, StopsAt}

pub take_front : {W : Type 0} (a b : List W) → take (length a) (a ++ b) ≡ a
take_front [] b = refl
take_front (w ∷ a) b = ap (λ v. w ∷ v) (take_front a b)

take_one_more : {W : Type 0} (a : List W) (w : W) (b : List W) → take (length a + 1) (a ++ w ∷ b) ≡ a ++ w ∷ []
take_one_more [] w b = refl
take_one_more (v ∷ a) w b =
    let next : suc (length a) + 1 ≡ suc (length a + 1) = omega arith in
    ap (λ k. take k (v ∷ (a ++ w ∷ b))) next ∙ ap (λ u. v ∷ u) (take_one_more a w b)

length_more : {W : Type 0} (a : List W) (w : W) (b : List W) → length a < length (a ++ w ∷ b)
length_more [] w b = omega arith
length_more (v ∷ a) w b = let k = length_more a w b in omega arith

-- no text begins with the words up to and with this one
pub stop_at : {W : Type 0} (G : List W → Type 0) (a : List W) (w : W) (b : List W) → Begins G a
    → ((m : List W) → G (a ++ w ∷ m) → ⊥) → StopsAt G (a ++ w ∷ b) (length a)
stop_at {W} G a w b begins dead =
    record {
      within = omega (arith, length_more a w b);
      outside = λ g. dead b g;
      begins = subst (Begins G) (sym (take_front a (w ∷ b))) begins;
      stops = λ lt x. dead x.0 (subst G (ap (λ v. v ++ x.0) (take_one_more a w b) ∙ append_assoc a (w ∷ []) x.0) x.1);
    }

-- the words begin a text, but are none
pub stop_end : {W : Type 0} (G : List W → Type 0) (a : List W) → Begins G a → (G a → ⊥) → StopsAt G a (length a)
stop_end G a begins dead = record {
  within = omega arith;
  outside = dead;
  begins = subst (Begins G) (sym (take_all (length a) a (omega arith))) begins;
  stops = λ lt x. absurd (omega arith);
}

-- a grammar under another name
pub stop_same : {W : Type 0} (G H : List W → Type 0) (ws : List W) (n : ℕ) → ((m : List W) → G m → H m)
    → ((m : List W) → H m → G m) → StopsAt G ws n → StopsAt H ws n
stop_same G H ws n to from s = record {
  within = s.within;
  outside = λ h. s.outside (from ws h);
  begins = (s.begins.0, to _ s.begins.1);
  stops = λ lt b. s.stops lt (b.0, from _ b.1);
}

-- one word, and then another grammar
pub stop_after : {W : Type 0} (G H : List W → Type 0) (w : W) (b : List W) (n : ℕ) → ((m : List W) → G (w ∷ m) → H m)
    → ((m : List W) → H m → G (w ∷ m)) → StopsAt H b n → StopsAt G (w ∷ b) (suc n)
stop_after G H w b n to from s =
    let low = s.within in
    let next : suc n + 1 ≡ suc (n + 1) = omega arith in
    record {
      within = omega arith;
      outside = λ g. s.outside (to b g);
      begins = (s.begins.0, from _ s.begins.1);
      stops = λ lt x. s.stops (omega arith)
          (x.0, to (take (n + 1) b ++ x.0) (subst (λ k. G (take k (w ∷ b) ++ x.0)) next x.1));
    }

-- some words, and then another grammar
pub stop_after_all : {W : Type 0} (G H : List W → Type 0) (a b : List W) (n : ℕ) → ((m : List W) → G (a ++ m) → H m)
    → ((m : List W) → H m → G (a ++ m)) → StopsAt H b n → StopsAt G (a ++ b) (length a + n)
stop_after_all {W} G H [] b n to from s =
    let same : n ≡ 0 + n = omega arith in
    subst (StopsAt G b) same (record {
      within = s.within;
      outside = λ g. s.outside (to b g);
      begins = (s.begins.0, from (take n b ++ s.begins.0) s.begins.1);
      stops = λ lt x. s.stops lt (x.0, to (take (n + 1) b ++ x.0) x.1);
    })
stop_after_all {W} G H (w ∷ a) b n to from s =
    let same : suc (length a + n) ≡ suc (length a) + n = omega arith in
    subst (StopsAt G (w ∷ (a ++ b))) same
    (stop_after G (λ m. G (w ∷ m)) w (a ++ b) (length a + n) (λ m g. g) (λ m g. g)
    (stop_after_all (λ m. G (w ∷ m)) H a b n to from s))

levi_on : {W : Type 0} (x y : W) (a b c d : List W) → x ≡ y
    → ((u : List W) × (a ≡ c ++ u) × (d ≡ u ++ b)) ⊎ ((v : List W) × (c ≡ a ++ v) × (b ≡ v ++ d))
    → ((u : List W) × (x ∷ a ≡ y ∷ c ++ u) × (d ≡ u ++ b)) ⊎ ((v : List W) × (y ∷ c ≡ x ∷ a ++ v) × (b ≡ v ++ d))
levi_on x y a b c d one (inl p) = inl (p.0, let k = p.1 in cc, p.2)
levi_on x y a b c d one (inr p) = inr (p.0, let k = p.1 in cc, p.2)

-- equal words in two parts each
pub levi : {W : Type 0} (a b c d : List W) → a ++ b ≡ c ++ d
    → ((x : List W) × (a ≡ c ++ x) × (d ≡ x ++ b)) ⊎ ((y : List W) × (c ≡ a ++ y) × (b ≡ y ++ d))
levi [] b c d h = inr (c, refl, h)
levi (x ∷ a) b [] d h = inl (x ∷ a, refl, sym h)
levi {W} (x ∷ a) b (y ∷ c) d h =
    let one : x ≡ y = cc in
    let later : a ++ b ≡ c ++ d = cc in
    levi_on x y a b c d one (levi a b c d later)
