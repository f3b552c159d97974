-- Each step keeps the rule of the words, and says what it is.
use Rattle.std.proofs.Common.{◌≡◌, ◌≢◌, ◌⊎◌, ℕ, zero, suc, ◌<◌, ◌≤◌, min, cond, List, [], ◌∷◌, ◌++◌, length, get_or}
use Rattle.std.proofs.Common.{set, replicate, sym, refl, ap, ◌∙◌, subst, inl, inr, ⊎_elim, arith, eq-eqb, ne_eqb}
use Rattle.std.proofs.Common.{length-set, get_or-set_same, get_or-set_other}
use mathlib.Core.Logic.{dite}
use mathlib.Core.Option.{some, none, some-injective, some-ne-none}
use native.Mathlib.Decide.{ℕ_discrete}
use lib.ListN.{get_elem?}
use Rattle.atomic_table.specs.Table.{Me, step, stepped, keeps, Allows}
use Rattle.atomic_table.proofs.Lists.{at_set, at_snoc}
use Rattle.early_stop.specs.declared.view.KnownPlaces.{KnownPlaces}
use Rattle.early_stop.specs.Cuts.{greatest, least, least_lowered, blank, lowered_view, seen_view, rest_view, part_view}
use Rattle.early_stop.specs.Cuts.{Board, Ruled, IsSplit, IsOpened, lowered_at, seen_at}

-- the least of a list with one place more in front
least_same : (i p : ℕ) (xs : List (ℕ × ℕ)) → least i ((i, p) ∷ xs) ≡ min p (least i xs)
least_same i p xs = ap (λ b. cond b (min p (least i xs)) (least i xs)) (eq-eqb i i refl)

least_else : (i j p : ℕ) (xs : List (ℕ × ℕ)) → j ≢ i → least j ((i, p) ∷ xs) ≡ least j xs
least_else i j p xs n = ap (λ b. cond b (min p (least j xs)) (least j xs)) (ne_eqb i j (λ e. n (sym e)))

-- one view is replaced by another
lower_set : (views : List KnownPlaces) (id : ℕ) (v w : KnownPlaces) (j p : ℕ) → get_elem? views id ≡ some v
    → least j w.lowered ≡ min p (least j v.lowered) → least_lowered j (set views id w) ≡ min p (least_lowered j views)
lower_set [] id v w j p e h = absurd (some-ne-none v (sym e))
lower_set (x ∷ xs) zero v w j p e h = let same : least j x.lowered ≡ least j v.lowered =
    ap (λ (u : KnownPlaces). least j u.lowered) (some-injective x v e) in omega arith
lower_set (x ∷ xs) (suc id) v w j p e h = let r = lower_set xs id v w j p e h in omega arith

same_set : (views : List KnownPlaces) (id : ℕ) (v w : KnownPlaces) (j : ℕ) → get_elem? views id ≡ some v
    → least j w.lowered ≡ least j v.lowered → least_lowered j (set views id w) ≡ least_lowered j views
same_set [] id v w j e h = absurd (some-ne-none v (sym e))
same_set (x ∷ xs) zero v w j e h = let same : least j x.lowered ≡ least j v.lowered =
    ap (λ (u : KnownPlaces). least j u.lowered) (some-injective x v e) in omega arith
same_set (x ∷ xs) (suc id) v w j e h = let r = same_set xs id v w j e h in omega arith

same_snoc : (views : List KnownPlaces) (v : KnownPlaces) (j : ℕ) → least j v.lowered ≡ greatest
    → least_lowered j (views ++ v ∷ []) ≡ least_lowered j views
same_snoc [] v j h = omega arith
same_snoc (x ∷ xs) v j h = let r = same_snoc xs v j h in omega arith

min_one : (n p : ℕ) → (min n p ≡ n) ⊎ (min n p ≡ p)
min_one n p = dite (ℕ_discrete (min n p) n) (λ e. inl e) (λ m. inr (omega arith))

-- the words at the start

abbrev tops : ℕ → List ℕ
tops n = replicate n greatest

long_tops : (n : ℕ) → length (tops n) ≡ n
long_tops zero = refl
long_tops (suc n) = let r = long_tops n in omega arith

top_at : (n i : ℕ) → i < n → get_or (tops n) i 0 ≡ greatest
top_at zero i h = absurd (omega arith)
top_at (suc n) zero h = refl
top_at (suc n) (suc i) h = top_at n i (omega arith)

module _ (decides : ℕ → ℕ → Type 0) (words : ℕ) where
  pub opens : ((i : ℕ) → decides i greatest) → IsOpened decides words blank
  opens all = record {
    size = long_tops words;
    word = λ i h. let t = top_at words i h in omega arith;
    decisive = λ i h. subst (decides i) (sym (top_at words i h)) (all i);
    known = λ i h a v e. at_first a v e i h;
  }
    where
      at_first : (a : ℕ) (v : KnownPlaces) → get_elem? (blank ∷ []) a ≡ some v → (i : ℕ) → i < words
          → get_or (tops words) i 0 ≤ least i v.known
      at_first zero v e i h = let t = top_at words i h in
          let k : least i v.known ≡ greatest =
          ap (λ (u : KnownPlaces). least i u.known) (sym (some-injective blank v e)) in omega arith
      at_first (suc a) v e i h = absurd (some-ne-none v (sym e))

  module _ (s : Board) (r : Ruled decides words s) (id : ℕ) (v : KnownPlaces) (at : get_elem? s.views id ≡ some v)
      (i : ℕ) (low : i < words) where
    abbrev found : ℕ
    found = get_or s.words i 0

    in_words : i < length s.words
    in_words = let z = r.size in omega arith

    here : (n : ℕ) → get_or (set s.words i n) i 0 ≡ n
    here n = get_or-set_same s.words i n 0 in_words

    -- a word that goes down keeps what is known
    down : (n : ℕ) → n ≤ found → (j : ℕ) → get_or (set s.words i n) j 0 ≤ get_or s.words j 0
    down n h j = dite (ℕ_discrete j i)
        (λ e. let a : get_or (set s.words i n) j 0 ≡ n = ap (λ k. get_or (set s.words i n) k 0) e ∙ here n in
        let b : get_or s.words j 0 ≡ found = ap (λ k. get_or s.words k 0) e in omega arith)
        (λ m. let a = get_or-set_other s.words i j n 0 m in omega arith)

    -- the seat lowered the word to p
    pub lowers : (p : ℕ) → decides i p → (c : List (ℕ × Unit {0}))
        → Ruled decides words (stepped s i (min found p) id c (lowered_view i p v) keeps)
    lowers p ok c = record {
      size = length-set s.words i (min found p) ∙ r.size;
      word = λ j h. dite (ℕ_discrete j i)
          (λ e. let a : get_or (set s.words i (min found p)) j 0 ≡ min found p =
          ap (λ k. get_or (set s.words i (min found p)) k 0) e ∙ here (min found p) in
          let b = lower_set s.views id v (lowered_view i p v) j p at
          (ap (λ k. least k (lowered_view i p v).lowered) e ∙ least_same i p v.lowered
          ∙ ap (λ k. min p (least k v.lowered)) (sym e)) in
          let q : get_or s.words j 0 ≡ found = ap (λ k. get_or s.words k 0) e in let d = r.word j h in omega arith)
          (λ m. let a = get_or-set_other s.words i j (min found p) 0 m in
          let b = same_set s.views id v (lowered_view i p v) j at (least_else i j p v.lowered m) in
          let d = r.word j h in omega arith);
      decisive = λ j h. dite (ℕ_discrete j i)
          (λ e. subst (λ k. decides k (get_or (set s.words i (min found p)) k 0)) (sym e)
          (subst (decides i) (sym (here (min found p)))
          (⊎_elim (λ q. subst (decides i) (sym q) (r.decisive i low)) (λ q. subst (decides i) (sym q) ok)
          (min_one found p))))
          (λ m. subst (decides j) (sym (get_or-set_other s.words i j (min found p) 0 m)) (r.decisive j h));
      known = λ j h a u e. let d = down (min found p) (omega arith) j in ⊎_elim
          (λ (z : (a ≡ id) × (lowered_view i p v ≡ u)). let k : least j (lowered_view i p v).known ≡ least j u.known =
          ap (λ (x : KnownPlaces). least j x.known) z.1 in let old = r.known j h id v at in dite (ℕ_discrete j i)
          (λ e. let a' : get_or (set s.words i (min found p)) j 0 ≡ min found p =
          ap (λ k. get_or (set s.words i (min found p)) k 0) e ∙ here (min found p) in
          let b : least j (lowered_view i p v).known ≡ min p (least j v.known) =
          ap (λ k. least k (lowered_view i p v).known) e ∙ least_same i p v.known
          ∙ ap (λ k. min p (least k v.known)) (sym e) in omega arith)
          (λ m. let b = least_else i j p v.known m in omega arith))
          (λ (z : (a ≢ id) × (get_elem? s.views a ≡ some u)). let old = r.known j h a u z.1 in omega arith)
          (at_set s.views id a (lowered_view i p v) u e);
    }

    -- the seat saw the word
    pub sees : (c : List (ℕ × Unit {0})) → Ruled decides words (stepped s i found id c (seen_view i found v) keeps)
    sees c = record {
      size = length-set s.words i found ∙ r.size;
      word = λ j h. let a = same_word j in let b = same_set s.views id v (seen_view i found v) j at refl in
          let d = r.word j h in omega arith;
      decisive = λ j h. subst (decides j) (sym (same_word j)) (r.decisive j h);
      known = λ j h a u e. let d = same_word j in ⊎_elim
          (λ (z : (a ≡ id) × (seen_view i found v ≡ u)). let k : least j (seen_view i found v).known ≡ least j u.known =
          ap (λ (x : KnownPlaces). least j x.known) z.1 in let old = r.known j h id v at in dite (ℕ_discrete j i)
          (λ e. let q : get_or s.words j 0 ≡ found = ap (λ k. get_or s.words k 0) e in
          let b : least j (seen_view i found v).known ≡ min found (least j v.known) =
          ap (λ k. least k (seen_view i found v).known) e ∙ least_same i found v.known
          ∙ ap (λ k. min found (least k v.known)) (sym e) in omega arith)
          (λ m. let b = least_else i j found v.known m in omega arith))
          (λ (z : (a ≢ id) × (get_elem? s.views a ≡ some u)). let old = r.known j h a u z.1 in omega arith)
          (at_set s.views id a (seen_view i found v) u e);
    }
      where
        same_word : (j : ℕ) → get_or (set s.words i found) j 0 ≡ get_or s.words j 0
        same_word j = dite (ℕ_discrete j i)
            (λ e. ap (λ k. get_or (set s.words i found) k 0) e ∙ here found ∙ ap (λ k. get_or s.words k 0) (sym e))
            (λ m. get_or-set_other s.words i j found 0 m)

  pub splits : (v : KnownPlaces) → IsSplit decides words v (rest_view v) (part_view v)
  splits v s id r at = record {
    size = r.size;
    word = λ j h. let a = same_set s.views id v v j at refl in
        let b = same_snoc (set s.views id v) (part_view v) j refl in let d = r.word j h in omega arith;
    decisive = r.decisive;
    known = λ j h a u e. ⊎_elim
        (λ (z : get_elem? (set s.views id v) a ≡ some u). ⊎_elim
        (λ (y : (a ≡ id) × (v ≡ u)). let k : least j v.known ≡ least j u.known =
        ap (λ (x : KnownPlaces). least j x.known) y.1 in let old = r.known j h id v at in omega arith)
        (λ (y : (a ≢ id) × (get_elem? s.views a ≡ some u)). r.known j h a u y.1)
        (at_set s.views id a v u z))
        (λ (z : part_view v ≡ u). let k : least j v.known ≡ least j u.known =
        ap (λ (x : KnownPlaces). least j x.known) z in let old = r.known j h id v at in omega arith)
        (at_snoc (set s.views id v) (part_view v) u a e);
  }

-- what the table asks of each step; `rule` is the table's own fact, `decides` the one that the step gives
module _ (rule decides : ℕ → ℕ → Type 0) (to : (i p : ℕ) → rule i p → decides i p)
    (from : (i p : ℕ) → decides i p → rule i p) (words told_words : ℕ) (same : told_words ≡ words) where
  told : (s : Board) → Ruled rule words s → Ruled decides told_words s
  told s r = subst (λ n. Ruled decides n s) (sym same)
      (record {
        size = r.size;
        word = r.word;
        decisive = λ i h. to i (get_or s.words i 0) (r.decisive i h);
        known = r.known;
      })

  pub lowers_told : (slots id actor i p : ℕ) (me : Me (Unit {0}) KnownPlaces) → actor ≡ id → i < words → decides i p
      → Allows (Ruled rule words) slots id me i (λ n. min n p)
      (lowered_at decides told_words actor (step slots i p 0 none) me)
  lowers_told slots id actor i p me by_me low ok s r _ at _ =
      let w : KnownPlaces = lowered_view i p me.0 in
      let n : ℕ = get_or s.words i 0 in
      let after = lowers rule words s r id me.0 at i low p (from i p ok) me.1 in (
        w,
        keeps,
        tt,
        after,
        (
          refl,
          record {
            view = refl;
            found = n;
            one_step = record {
              before = s;
              later = stepped s i (min n p) id me.1 w keeps;
              ruled = told s r;
              found = refl;
              viewed = subst (λ a. get_elem? s.views a ≡ some me.0) (sym by_me) at;
              words_after = refl;
              views_after = ap (λ a. set s.views a w) (sym by_me);
              ruled_after = told (stepped s i (min n p) id me.1 w keeps) after;
            };
          },
        ),
      )

  pub sees_told : (slots id actor i : ℕ) (me : Me (Unit {0}) KnownPlaces) → actor ≡ id → i < words
      → Allows (Ruled rule words) slots id me i (λ n. n) (seen_at decides told_words actor (step slots i 0 0 none) me)
  sees_told slots id actor i me by_me low s r _ at _ =
      let n : ℕ = get_or s.words i 0 in
      let w : KnownPlaces = seen_view i n me.0 in
      let after = sees rule words s r id me.0 at i low me.1 in (
        w,
        keeps,
        tt,
        after,
        (
          refl,
          record {
            view = refl;
            decisive = to i n (r.decisive i low);
            known = r.known i low id me.0 at;
            one_step = record {
              before = s;
              later = stepped s i n id me.1 w keeps;
              ruled = told s r;
              found = refl;
              viewed = subst (λ a. get_elem? s.views a ≡ some me.0) (sym by_me) at;
              words_after = refl;
              views_after = ap (λ a. set s.views a w) (sym by_me);
              ruled_after = told (stepped s i n id me.1 w keeps) after;
            };
          },
        ),
      )
