-- A seat is joined into another one, which gets all that it holds.
use Rattle.std.proofs.Common.{◌≡◌, ◌≢◌, ℕ, zero, suc, ◌+◌, ◌<◌, ◌≤◌, eqb, cond, min, Bool, true, false, List, [], ◌∷◌}
use Rattle.std.proofs.Common.{◌++◌, get_or, set, sym, refl, ap, ◌∙◌, subst, arith, eq-eqb, ne_eqb, true≢false, Option}
use Rattle.std.proofs.Common.{Some, None, nat_le, ◌||◌, lt_of_not-le, ◌⊎◌, inl, inr, ⊎_elim}
use mathlib.Core.Logic.{dite}
use mathlib.Core.Option.{some}
use native.Mathlib.Decide.{ℕ_discrete, dec_le}
use lib.ListN.{get_elem?}
use Rattle.atomic_table.specs.Table.{State}
use Rattle.completion_core.specs.declared.action.Action.TheVariants.{Give}
use Rattle.completion_core.specs.Runs.{LegalAll, after_all}
use Rattle.pending_count.specs.Steps.{gives_all, IsJoined}
use Rattle.completion_core.specs.Graph.{Held, total, amount, Graph}
use Rattle.completion_core.specs.Legal.{renamed, rename, only_at, count, after}
use Rattle.pending_count.specs.declared.view.View.{View}
use Rattle.pending_count.specs.Views.{blank, joined_view, least, view_at, names, keeps_at, note_of}
use Rattle.pending_count.specs.Shows.{Shows, Holding, Noting, kept_at}
use Rattle.pending_count.proofs.SumLemmas.{one_at, total-append, total-set, term_le, some_is}
use Rattle.pending_count.proofs.RecordLemmas.{fresh_here, fresh_else}
use Rattle.pending_count.proofs.RuleLemmas.{mine, here_is, else_is, stays, my_part, is_drawn, held_low}
use Rattle.completion_core.specs.declared.action.Action.{Action}
use Rattle.atomic_table.proofs.Lists.{set_else}
use Rattle.pending_count.proofs.GiveLemmas.{given, fewer_here, more_there, same_else}

-- all that a seat holds is given, node by node
module _ (from to : ℕ) (apart : from ≢ to) (held : List ℕ) where
  abbrev pub upto : ℕ → ℕ → ℕ
  upto n i = cond (nat_le i n) (count i held) 0

  pub upto_low : (n i : ℕ) → i ≤ n → upto n i ≡ count i held
  upto_low n i h = grind arith

  pub upto_high : (n i : ℕ) → n < i → upto n i ≡ 0
  upto_high n i h = grind arith

  abbrev pub given_upto : ℕ → Graph → Graph
  given_upto n g = record g { arrivals = λ i. rename (upto n i) (Held from) (Held to) (g.arrivals i) }

  upto_first : (i : ℕ) → upto 0 i ≡ only_at 0 (count 0 held) i
  upto_first i = dite (ℕ_discrete i 0)
      (λ e. upto_low 0 i (omega arith) ∙ ap (λ k. count k held) e ∙ sym (fresh_here 0 (count 0 held))
      ∙ ap (only_at 0 (count 0 held)) (sym e))
      (λ n. upto_high 0 i (omega arith) ∙ sym (fresh_else 0 (count 0 held) i n))

  -- the arrivals after one more node
  one_more : (n k i : ℕ) (g : Graph) → k ≡ count (suc n) held
      → rename (upto n i) (Held from) (Held to) (renamed (Held from) (Held to) (only_at (suc n) k) g.arrivals i)
      ≡ rename (upto (suc n) i) (Held from) (Held to) (g.arrivals i)
  one_more n k i g is = dite (ℕ_discrete i (suc n))
      (λ e.
      let a : upto n i ≡ 0 = upto_high n i (omega arith) in
      let b : only_at (suc n) k i ≡ k = ap (only_at (suc n) k) e ∙ fresh_here (suc n) k in
      let c : upto (suc n) i ≡ k = upto_low (suc n) i (omega arith) ∙ ap (λ j. count j held) e ∙ sym is in
      ap (λ j. rename j (Held from) (Held to) (rename (only_at (suc n) k i) (Held from) (Held to) (g.arrivals i))) a
      ∙ ap (λ j. rename j (Held from) (Held to) (g.arrivals i)) (b ∙ sym c))
      (λ m.
      let b : only_at (suc n) k i ≡ 0 = fresh_else (suc n) k i m in
      let c : upto (suc n) i ≡ upto n i =
      dite (dec_le i n) (λ l. upto_low (suc n) i (omega arith) ∙ sym (upto_low n i l))
      (λ l. let h : n < i = lt_of_not-le l in upto_high (suc n) i (omega arith) ∙ sym (upto_high n i h)) in
      ap (λ j. rename (upto n i) (Held from) (Held to) (rename j (Held from) (Held to) (g.arrivals i))) b
      ∙ ap (λ j. rename j (Held from) (Held to) (g.arrivals i)) (sym c))

  by_count : (k : ℕ) (F : List Action → Type 0) (xs ys : List Action) → (k ≡ 0 → F xs) → (0 < k → F ys)
      → F (cond (eqb k 0) xs ys)
  by_count k F xs ys p q = dite (ℕ_discrete k 0)
      (λ e. subst (λ b. F (cond b xs ys)) (sym (eq-eqb k 0 e)) (p e))
      (λ n. subst (λ b. F (cond b xs ys)) (sym (ne_eqb k 0 n)) (q (omega arith)))

  pub after_gives : (n : ℕ) (g : Graph) → after_all (gives_all from to held n) g ≡ given_upto n g
  after_gives zero g = by_count (count 0 held) (λ l. after_all l g ≡ given_upto 0 g) []
      (Give from to 0 (count 0 held) ∷ [])
      (λ z k. record g {
        arrivals = λ i. rename (sym (upto_first i ∙ ap (λ j. only_at 0 j i) z ∙ none_at i) k)
            (Held from) (Held to) (g.arrivals i);
      })
      (λ p k. record g { arrivals = λ i. rename (sym (upto_first i) k) (Held from) (Held to) (g.arrivals i) })
    where
      none_at : (i : ℕ) → only_at 0 0 i ≡ 0
      none_at i = dite (ℕ_discrete i 0) (λ e. ap (only_at 0 0) e) (λ n. fresh_else 0 0 i n)
  after_gives (suc n) g = by_count (count (suc n) held) (λ l. after_all l g ≡ given_upto (suc n) g)
      (gives_all from to held n) (Give from to (suc n) (count (suc n) held) ∷ gives_all from to held n)
      (λ z. after_gives n g ∙ (λ k. record g
      { arrivals = λ i. rename (same_upto z i k) (Held from) (Held to) (g.arrivals i) }))
      (λ p. after_gives n (after (Give from to (suc n) (count (suc n) held)) g)
      ∙ (λ k. record g { arrivals = λ i. one_more n (count (suc n) held) i g refl k }))
    where
      same_upto : count (suc n) held ≡ 0 → (i : ℕ) → upto n i ≡ upto (suc n) i
      same_upto z i = dite (dec_le i n)
          (λ l. upto_low n i l ∙ sym (upto_low (suc n) i (omega arith)))
          (λ l. let h : n < i = lt_of_not-le l in
          upto_high n i h ∙ dite (ℕ_discrete i (suc n))
          (λ e. sym (upto_low (suc n) i (omega arith) ∙ ap (λ j. count j held) e ∙ z))
          (λ m. sym (upto_high (suc n) i (omega arith))))

  pub legal_gives : (n : ℕ) (g : Graph) → ((i : ℕ) → i ≤ n → count i held ≤ amount (Held from) (g.arrivals i))
      → ((i : ℕ) → 0 < i → 0 < count i held → i ≤ g.drawn) → LegalAll (gives_all from to held n) g
  legal_gives zero g have drawn = by_count (count 0 held) (λ l. LegalAll l g) [] (Give from to 0 (count 0 held) ∷ [])
      (λ z. tt) (λ p. (((λ q. absurd (omega arith)), have 0 (omega arith)), tt))
  legal_gives (suc n) g have drawn = by_count (count (suc n) held) (λ l. LegalAll l g) (gives_all from to held n)
      (Give from to (suc n) (count (suc n) held) ∷ gives_all from to held n)
      (λ z. legal_gives n g (λ i l. have i (omega arith)) drawn)
      (λ p. (
        ((λ q. drawn (suc n) (omega arith) p), have (suc n) (omega arith)),
        legal_gives n (after (Give from to (suc n) (count (suc n) held)) g)
            (λ i l. subst (λ j. count i held ≤ amount (Held from) (rename j (Held from) (Held to) (g.arrivals i)))
            (sym (fresh_else (suc n) (count (suc n) held) i (λ e. absurd (omega arith)))) (have i (omega arith))) drawn,
      ))

pub note-append : {A : Type 0} (i : ℕ) (k : A) (xs ys : List (ℕ × A)) → note_of i (xs ++ ys) ≡ Some k
    → (note_of i xs ≡ Some k) ⊎ (note_of i ys ≡ Some k)
note-append i k [] ys e = inr e
note-append i k (x ∷ xs) ys e = dite (ℕ_discrete x.0 i)
    (λ h. inl (ap (λ b. cond b (Some x.1) (note_of i xs)) (eq-eqb x.0 i h)
    ∙ sym (ap (λ b. cond b (Some x.1) (note_of i (xs ++ ys))) (eq-eqb x.0 i h)) ∙ e))
    (λ n. ⊎_elim (λ z. inl (ap (λ b. cond b (Some x.1) (note_of i xs)) (ne_eqb x.0 i n) ∙ z)) (λ z. inr z)
    (note-append i k xs ys (sym (ap (λ b. cond b (Some x.1) (note_of i (xs ++ ys))) (ne_eqb x.0 i n)) ∙ e)))

pub least_is : (x : ℕ) (a b : Option ℕ) (n : ℕ) → ((m : ℕ) → a ≡ Some m → x ≤ m) → ((m : ℕ) → b ≡ Some m → x ≤ m)
    → least a b ≡ Some n → x ≤ n
least_is x None b n p q e = q n e
least_is x (Some m) None n p q e = p n e
least_is x (Some m) (Some k) n p q e = let h = some_is (min m k) n e in let a = p m refl in let b = q k refl in
    omega arith

pub or_is : (a b : Bool) → (a || b) ≡ true → (a ≡ true) ⊎ (b ≡ true)
or_is true b e = inl refl
or_is false b e = inr e

module _ {S T : Type 0} (nodes : ℕ) (s : State S (View T)) (g : Graph) (r : Shows nodes s g) (id other : ℕ)
    (apart : other ≢ id) (v u : View T) (at : get_elem? s.views id ≡ some v) (there' : get_elem? s.views other ≡ some u)
    (spent : (i : ℕ) → count i u.claims ≡ 0) where
  abbrev pub both : View T
  both = joined_view v u

  abbrev pub views1 : List (View T)
  views1 = set s.views id both

  abbrev pub views2 : List (View T)
  views2 = set views1 other blank

  pub at1 : get_elem? views1 other ≡ some u
  at1 = set_else s.views id other both apart ∙ there'

  abbrev pub m : ℕ → ℕ
  m i = upto other id apart u.held nodes i

  pub m_is : (i : ℕ) → m i ≡ count i u.held
  m_is i = dite (dec_le i nodes) (λ l. upto_low other id apart u.held nodes i l)
      (λ l. let h : nodes < i = lt_of_not-le l in
      upto_high other id apart u.held nodes i h
      ∙ sym (dite (ℕ_discrete (count i u.held) 0) (λ e. e)
      (λ n. let q = held_low nodes s g r other u there' i (omega arith) in absurd (omega arith))))

  pub join_fit : (i : ℕ) → m i ≤ amount (Held other) (g.arrivals i)
  join_fit i = let a = m_is i in let b = my_part nodes s g r other u there' i in omega arith

  -- a sum over all views
  pub sum_is : (f : View T → ℕ) → f blank ≡ 0 → total f views2 + f v + f u ≡ total f s.views + f both
  sum_is f z = let a = total-set f views1 other u blank at1 in let b = total-set f s.views id v both at in omega arith

  join_holding : Holding views2 (renamed (Held other) (Held id) m g.arrivals)
  join_holding a i = dite (ℕ_discrete a other)
      (λ e. ap (λ k. count i (view_at views2 k).held) e
      ∙ ap (λ (w : View T). count i w.held) (here_is views1 other u at1 blank)
      ∙ (let x = fewer_here nodes s g r other id apart m join_fit i in let y = my_part nodes s g r other u there' i in
      let z = m_is i in omega arith)
      ∙ ap (λ k. amount (Held k) (renamed (Held other) (Held id) m g.arrivals i)) (sym e))
      (λ n. ap (λ (w : View T). count i w.held) (else_is views1 other u at1 blank a n) ∙ dite (ℕ_discrete a id)
      (λ e. ap (λ k. count i (view_at views1 k).held) e
      ∙ ap (λ (w : View T). count i w.held) (here_is s.views id v at both)
      ∙ (let x = more_there nodes s g r other id apart m join_fit i in let y = my_part nodes s g r id v at i in
      let z = m_is i in let q = total-append (one_at i) v.held u.held in omega arith)
      ∙ ap (λ k. amount (Held k) (renamed (Held other) (Held id) m g.arrivals i)) (sym e))
      (λ n'. ap (λ (w : View T). count i w.held) (else_is s.views id v at both a n') ∙ r.holding a i
      ∙ sym (same_else nodes s g r other id apart m join_fit a i n n')))

  -- a part of a view: the part of the joined ones, nothing, or as it was
  pub part_of : {A : Type 0} (p : View T → A) (a : ℕ)
      → (p (view_at views2 a) ≡ p both) ⊎
      ((p (view_at views2 a) ≡ p blank) ⊎ (p (view_at views2 a) ≡ p (view_at s.views a)))
  part_of p a = dite (ℕ_discrete a other)
      (λ e. inr (inl (ap (λ k. p (view_at views2 k)) e ∙ ap p (here_is views1 other u at1 blank))))
      (λ n. dite (ℕ_discrete a id)
      (λ e. inl (ap p (else_is views1 other u at1 blank a n) ∙ ap (λ k. p (view_at views1 k)) e
      ∙ ap p (here_is s.views id v at both)))
      (λ n'. inr (inr (ap p (else_is views1 other u at1 blank a n) ∙ ap p (else_is s.views id v at both a n')))))

  pub kept_same : (i j : ℕ) → kept_at i j views2 ≡ kept_at i j s.views
  kept_same i j = let a = sum_is (λ (w : View T). total (keeps_at i j) w.armed) refl in
      let b = total-append (keeps_at i j) v.armed u.armed in omega arith

  noted_one : (a i : ℕ) (q : List ℕ) → note_of i (view_at s.views a).noted ≡ Some q
      → (g.armed i ≡ true) × ((j : ℕ) → count j q ≡ kept_at i j views2)
  noted_one a i q e = let n = r.noting.noted a i q e in (n.0, λ j. n.1 j ∙ sym (kept_same i j))

  mine_noted : (i : ℕ) (q : List ℕ) → note_of i v.noted ≡ Some q
      → (g.armed i ≡ true) × ((j : ℕ) → count j q ≡ kept_at i j views2)
  mine_noted i q e = noted_one id i q (ap (λ (w : View T). note_of i w.noted) (mine s.views id v at) ∙ e)

  theirs_noted : (i : ℕ) (q : List ℕ) → note_of i u.noted ≡ Some q
      → (g.armed i ≡ true) × ((j : ℕ) → count j q ≡ kept_at i j views2)
  theirs_noted i q e = noted_one other i q (ap (λ (w : View T). note_of i w.noted) (mine s.views other u there') ∙ e)

  join_noting : Noting nodes s.words views2 g.armed
  join_noting = record {
    noted = λ a i q e. ⊎_elim
        (λ (z : (view_at views2 a).noted ≡ both.noted). ⊎_elim (mine_noted i q) (theirs_noted i q)
        (note-append i q v.noted u.noted (ap (note_of i) (sym z) ∙ e)))
        (λ z. ⊎_elim (λ (y : (view_at views2 a).noted ≡ []). absurd (none_noted i q (ap (note_of i) (sym y) ∙ e)))
        (λ (y : (view_at views2 a).noted ≡ (view_at s.views a).noted). noted_one a i q (ap (note_of i) (sym y) ∙ e))
        z)
        (part_of (λ w. w.noted) a);
    seen = λ a n e. ⊎_elim
        (λ (z : (view_at views2 a).seen ≡ both.seen). least_is (get_or s.words 0 0) v.seen u.seen n
        (λ k h. r.noting.seen id k (ap (λ (w : View T). w.seen) (mine s.views id v at) ∙ h))
        (λ k h. r.noting.seen other k (ap (λ (w : View T). w.seen) (mine s.views other u there') ∙ h)) (sym z ∙ e))
        (λ z. ⊎_elim (λ (y : (view_at views2 a).seen ≡ None). absurd (none_seen n (sym y ∙ e)))
        (λ (y : (view_at views2 a).seen ≡ (view_at s.views a).seen). r.noting.seen a n (sym y ∙ e)) z)
        (part_of (λ w. w.seen) a);
    exhausted = λ a e. ⊎_elim
        (λ (z : (view_at views2 a).none_left ≡ both.none_left). ⊎_elim
        (λ h. r.noting.exhausted id (ap (λ (w : View T). w.none_left) (mine s.views id v at) ∙ h))
        (λ h. r.noting.exhausted other (ap (λ (w : View T). w.none_left) (mine s.views other u there') ∙ h))
        (or_is v.none_left u.none_left (sym z ∙ e)))
        (λ z. ⊎_elim (λ (y : (view_at views2 a).none_left ≡ false). absurd (true≢false (sym e ∙ y)))
        (λ (y : (view_at views2 a).none_left ≡ (view_at s.views a).none_left). r.noting.exhausted a (sym y ∙ e)) z)
        (part_of (λ w. w.none_left) a);
  }
    where
      none_noted : (i : ℕ) (q : List ℕ) → None ≡ Some q → ⊥
      none_noted i q e = absurd (grind arith)

      none_seen : (n : ℕ) → None ≡ Some n → ⊥
      none_seen n e = absurd (grind arith)

  -- the credits of two seats are no more than the whole
  pub credits : v.credit + u.credit ≤ 4611686018427387904
  credits = let a = total-set (λ (w : View T). w.credit) s.views id v blank at in
      let b = term_le (λ (w : View T). w.credit) (set s.views id blank) other u
      (set_else s.views id other blank apart ∙ there') in let p = r.counting.paid in omega arith

  pub joins : Shows nodes (record { words = s.words; homes = s.homes; views = views2 })
      (after_all (gives_all other id u.held nodes) g)
  joins = subst (λ h. Shows nodes (record { words = s.words; homes = s.homes; views = views2 }) h)
      (sym (after_gives other id apart u.held nodes g)) (given nodes s g r other id apart m join_fit views2
      (let a = sum_is (λ (w : View T). w.credit) refl in let b = credits in omega arith)
      (let a = sum_is (λ (w : View T). w.added) refl in omega arith)
      join_holding
      (λ a i. dite (ℕ_discrete a other)
      (λ e. ap (λ k. count i (view_at views2 k).claims) e
      ∙ ap (λ (w : View T). count i w.claims) (here_is views1 other u at1 blank) ∙ sym (spent i)
      ∙ ap (λ (w : View T). count i w.claims) (sym (mine s.views other u there'))
      ∙ ap (λ k. count i (view_at s.views k).claims) (sym e))
      (λ n. ap (λ (w : View T). count i w.claims) (else_is views1 other u at1 blank a n)
      ∙ stays s.views id v at (λ w. count i w.claims) both refl a))
      (λ i. let a = sum_is (λ (w : View T). total (names i) w.armed) refl in
      let b = total-append (names i) v.armed u.armed in omega arith)
      kept_same
      join_noting)

  pub legal : LegalAll (gives_all other id u.held nodes) g
  legal = legal_gives other id apart u.held nodes g (λ i l. let a = my_part nodes s g r other u there' i in omega arith)
      (λ i p h. is_drawn nodes s g r other u there' i p h)

pub is_joined : (S : Type 0) {T : Type 0} (nodes : ℕ) (v u : View T) → ((i : ℕ) → count i u.claims ≡ 0)
    → IsJoined S nodes v u (joined_view v u)
is_joined S nodes v u spent s g id other r at there' apart =
    (legal nodes s g r id other apart v u at there' spent, joins nodes s g r id other apart v u at there' spent)
