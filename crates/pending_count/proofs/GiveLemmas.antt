-- A seat gives arrivals to another one: a new seat that is split off, or the one that it is joined into.
use Rattle.std.proofs.Common.{◌≡◌, ◌≢◌, ℕ, zero, suc, ◌+◌, ◌<◌, ◌≤◌, List, [], ◌∷◌, ◌++◌, length, get_or, set, sym}
use Rattle.std.proofs.Common.{refl, ap, ◌∙◌, subst, arith, length-set, lt_of_not-le, ◌⊎◌, inl, inr, ⊎_elim}
use mathlib.Core.Logic.{dite}
use mathlib.Core.Option.{some}
use native.Mathlib.Decide.{ℕ_discrete, dec_le}
use lib.ListN.{get_elem?}
use Rattle.atomic_table.specs.Table.{State}
use Rattle.completion_core.specs.declared.action.Action.TheVariants.{Give}
use Rattle.pending_count.specs.Steps.{IsSplit}
use Rattle.completion_core.specs.Graph.{Arrival, Held, Kept, one_same, not_made, total, copies, amount, left, Graph}
use Rattle.completion_core.specs.Legal.{renamed, rename, only_at, count, after}
use Rattle.pending_count.specs.declared.view.View.{View}
use Rattle.pending_count.specs.Views.{blank, view_at, names, keeps_at, note_of, rest_view, part_view}
use Rattle.pending_count.specs.Shows.{additions, Shows, Holding, Noting, kept_at}
use Rattle.pending_count.proofs.SumLemmas.{one_at, total-append, total-set, total-minus, self_held, one_held}
use Rattle.pending_count.proofs.SumLemmas.{same_after, fewer_after, more_after, rename-none}
use Rattle.pending_count.proofs.RecordLemmas.{fresh_here, fresh_else, fresh-count, copies_fit}
use Rattle.pending_count.proofs.RuleLemmas.{there, mine, here_is, else_is, stays, sum_stays, claiming_as, keeping_as}
use Rattle.pending_count.proofs.RuleLemmas.{my_part, is_drawn}

module _ {A : Type 0} (d : A) where
  pub snoc_low : (l : List A) (u : A) (a : ℕ) → a < length l → get_or (l ++ u ∷ []) a d ≡ get_or l a d
  snoc_low [] u a h = absurd (omega arith)
  snoc_low (x ∷ xs) u zero h = refl
  snoc_low (x ∷ xs) u (suc a) h = snoc_low xs u a (omega arith)

  pub snoc_at : (l : List A) (u : A) → get_or (l ++ u ∷ []) (length l) d ≡ u
  snoc_at [] u = refl
  snoc_at (x ∷ xs) u = ap (λ k. get_or (x ∷ xs ++ u ∷ []) k d)
      (let e : length (x ∷ xs) ≡ suc (length xs) = omega arith in e) ∙ snoc_at xs u

  pub snoc_high : (l : List A) (u : A) (a : ℕ) → length l < a → get_or (l ++ u ∷ []) a d ≡ d
  snoc_high [] u zero h = absurd (omega arith)
  snoc_high [] u (suc a) h = refl
  snoc_high (x ∷ xs) u zero h = absurd (omega arith)
  snoc_high (x ∷ xs) u (suc a) h = snoc_high xs u a (omega arith)

  pub beyond : (l : List A) (a : ℕ) → length l ≤ a → get_or l a d ≡ d
  beyond [] a h = refl
  beyond (x ∷ xs) zero h = absurd (omega arith)
  beyond (x ∷ xs) (suc a) h = beyond xs a (omega arith)

-- of the arrivals that a holds, b gets m i at each node i
module _ {S T : Type 0} (nodes : ℕ) (s : State S (View T)) (g : Graph) (r : Shows nodes s g) (a b : ℕ) (apart : a ≢ b)
    (m : ℕ → ℕ) (fit : (i : ℕ) → m i ≤ amount (Held a) (g.arrivals i)) where
  abbrev pub arr : ℕ → List Arrival
  arr = renamed (Held a) (Held b) m g.arrivals

  left_is : (i : ℕ) → left (arr i) ≡ left (g.arrivals i)
  left_is i = same_after (Held a) (Held b) m g.arrivals fit not_made refl i

  kept_is : (k i : ℕ) → amount (Kept k) (arr i) ≡ amount (Kept k) (g.arrivals i)
  kept_is k i = same_after (Held a) (Held b) m g.arrivals fit (one_same (Kept k)) refl i

  pub fewer_here : (i : ℕ) → amount (Held a) (arr i) + m i ≡ amount (Held a) (g.arrivals i)
  fewer_here i = fewer_after (Held a) (Held b) m g.arrivals fit (one_same (Held a)) (self_held a) (one_held a b apart) i

  pub more_there : (i : ℕ) → amount (Held b) (arr i) ≡ amount (Held b) (g.arrivals i) + m i
  more_there i = more_after (Held a) (Held b) m g.arrivals fit (one_same (Held b)) (one_held b a (λ e. apart (sym e)))
      (self_held b) i

  pub same_else : (x i : ℕ) → x ≢ a → x ≢ b → amount (Held x) (arr i) ≡ amount (Held x) (g.arrivals i)
  same_else x i n n' = same_after (Held a) (Held b) m g.arrivals fit (one_same (Held x))
      (one_held x a n ∙ sym (one_held x b n')) i

  pub given : (views' : List (View T)) → total (λ v. v.credit) views' ≡ total (λ v. v.credit) s.views
      → additions views' ≡ additions s.views → Holding views' arr
      → ((x i : ℕ) → count i (view_at views' x).claims ≡ count i (view_at s.views x).claims)
      → ((i : ℕ) → total (λ v. total (names i) v.armed) views' ≡ total (λ v. total (names i) v.armed) s.views)
      → ((i j : ℕ) → kept_at i j views' ≡ kept_at i j s.views) → Noting nodes s.words views' g.armed
      → Shows nodes (record { words = s.words; homes = s.homes; views = views' }) (record g { arrivals = arr })
  given views' credit added holding claims named kept noting = record {
    all_nodes = r.all_nodes;
    counting = record {
      size = r.counting.size;
      draws = r.counting.draws;
      paid = (let p = r.counting.paid in omega arith);
      few = λ i p. let x = left_is i in let y = r.counting.few i p in omega arith;
      word = λ i h. r.counting.word i h ∙ sym (left_is i);
    };
    holding = holding;
    claiming = claiming_as s.views views' claims r.claiming;
    running = record {
      below = r.running.below;
      bare = λ i p e. ap (rename (m i) (Held a) (Held b)) (r.running.bare i p e) ∙ rename-none (m i) (Held a) (Held b);
      idle = r.running.idle;
      waits = λ i e d. let x = r.running.waits i e d in let y = left_is i in omega arith;
      over = λ i e. left_is i ∙ r.running.over i e;
    };
    keeping = keeping_as s.views views' named kept kept_is r.keeping;
    noting = noting;
  }

-- a new seat gets k arrivals at one node, and some credit
module _ {S T : Type 0} (nodes : ℕ) (s : State S (View T)) (g : Graph) (r : Shows nodes s g) (id : ℕ) (v : View T)
    (at : get_elem? s.views id ≡ some v) (node k c : ℕ) (l : List ℕ) (have : k ≤ count node v.held)
    (pays : c ≤ v.credit) where
  abbrev pub new : ℕ
  new = length s.views

  abbrev pub m : ℕ → ℕ
  m = only_at node k

  id_low : id < new
  id_low = there s.views id v at

  pub new_apart : id ≢ new
  new_apart e = let a = id_low in absurd (omega arith)

  pub part_fit : (i : ℕ) → m i ≤ amount (Held id) (g.arrivals i)
  part_fit i = dite (ℕ_discrete i node)
      (λ e. subst (λ j. m j ≤ amount (Held id) (g.arrivals j)) (sym e)
      (let a = my_part nodes s g r id v at node in let b = fresh_here node k in omega arith))
      (λ n. let b = fresh_else node k i n in omega arith)

  abbrev pub rest : View T
  rest = rest_view node k c l v

  abbrev pub part : View T
  part = part_view node k c l v

  abbrev pub views1 : List (View T)
  views1 = set s.views id rest

  abbrev pub views2 : List (View T)
  views2 = views1 ++ part ∷ []

  pub size1 : length views1 ≡ new
  size1 = length-set s.views id rest

  pub at_new : view_at views2 new ≡ part
  at_new = ap (λ k. view_at views2 k) (sym size1) ∙ snoc_at blank views1 part

  pub at_old : (a : ℕ) → a ≢ new → view_at views2 a ≡ view_at views1 a
  at_old a n = dite (dec_le new a)
      (λ h. snoc_high blank views1 part a (let e = size1 in omega arith)
      ∙ sym (beyond blank views1 a (let e = size1 in omega arith)))
      (λ h. let l : a < new = lt_of_not-le h in snoc_low blank views1 part a (let e = size1 in omega arith))

  pub sum_is : (f : View T → ℕ) → total f views2 ≡ total f views1 + f part
  sum_is f = let a = total-append f views1 (part ∷ []) in omega arith

  nothing : (i : ℕ) → amount (Held new) (g.arrivals i) ≡ 0
  nothing i = sym (r.holding new i) ∙ ap (λ (u : View T). count i u.held) (beyond blank s.views new (omega arith))

  part_holding : Holding views2 (arr nodes s g r id new new_apart m part_fit)
  part_holding a i = dite (ℕ_discrete a new)
      (λ e. ap (λ k. count i (view_at views2 k).held) e ∙ ap (λ (u : View T). count i u.held) at_new
      ∙ (let x = more_there nodes s g r id new new_apart m part_fit i in let y = nothing i in
      let z = fresh-count node k i in omega arith)
      ∙ ap (λ k. amount (Held k) (arr nodes s g r id new new_apart m part_fit i)) (sym e))
      (λ n. ap (λ (u : View T). count i u.held) (at_old a n) ∙ dite (ℕ_discrete a id)
      (λ e. ap (λ k. count i (view_at views1 k).held) e
      ∙ ap (λ (u : View T). count i u.held) (here_is s.views id v at rest)
      ∙ (let x = fewer_here nodes s g r id new new_apart m part_fit i in
      let y = total-minus (one_at i) (copies k node) v.held (copies_fit node k v.held have) in
      let z = fresh-count node k i in let q = my_part nodes s g r id v at i in omega arith)
      ∙ ap (λ k. amount (Held k) (arr nodes s g r id new new_apart m part_fit i)) (sym e))
      (λ n'. ap (λ (u : View T). count i u.held) (else_is s.views id v at rest a n') ∙ r.holding a i
      ∙ sym (same_else nodes s g r id new new_apart m part_fit a i n' n)))

  -- a part of a view that both seats have of the first one
  pub both_have : {A : Type 0} (p : View T → A) → p rest ≡ p v → p part ≡ p v → (a : ℕ)
      → (p (view_at views2 a) ≡ p v) ⊎ (p (view_at views2 a) ≡ p (view_at s.views a))
  both_have p e f a = dite (ℕ_discrete a new)
      (λ h. inl (ap (λ k. p (view_at views2 k)) h ∙ ap p at_new ∙ f))
      (λ n. inr (ap p (at_old a n) ∙ stays s.views id v at p rest e a))

  pub kept_same : (i j : ℕ) → kept_at i j views2 ≡ kept_at i j s.views
  kept_same i j = let a = sum_is (λ (v : View T). total (keeps_at i j) v.armed) in
      let b = sum_stays s.views id v at (λ u. total (keeps_at i j) u.armed) rest refl in omega arith

  part_noting : Noting nodes s.words views2 g.armed
  part_noting = record {
    noted = λ a i q e. ⊎_elim
        (λ (z : (view_at views2 a).noted ≡ v.noted). let n =
        r.noting.noted id i q (ap (note_of i) (ap (λ (u : View T). u.noted) (mine s.views id v at) ∙ sym z) ∙ e) in
        (n.0, λ j. n.1 j ∙ sym (kept_same i j)))
        (λ z. let n = r.noting.noted a i q (ap (note_of i) (sym z) ∙ e) in (n.0, λ j. n.1 j ∙ sym (kept_same i j)))
        (both_have (λ u. u.noted) refl refl a);
    seen = λ a n e. ⊎_elim
        (λ (z : (view_at views2 a).seen ≡ v.seen). r.noting.seen id n
        (ap (λ (u : View T). u.seen) (mine s.views id v at) ∙ sym z ∙ e))
        (λ z. r.noting.seen a n (sym z ∙ e))
        (both_have (λ u. u.seen) refl refl a);
    exhausted = λ a e. ⊎_elim
        (λ (z : (view_at views2 a).none_left ≡ v.none_left). r.noting.exhausted id
        (ap (λ (u : View T). u.none_left) (mine s.views id v at) ∙ sym z ∙ e))
        (λ z. r.noting.exhausted a (sym z ∙ e))
        (both_have (λ u. u.none_left) refl refl a);
  }

  pub parts : Shows nodes (record { words = s.words; homes = s.homes; views = views2 }) (after (Give id new node k) g)
  parts = given nodes s g r id new new_apart m part_fit views2
      (let a = sum_is (λ (v : View T). v.credit) in let b = total-set (λ (v : View T). v.credit) s.views id v rest at in
      omega arith)
      (let a = sum_is (λ (v : View T). v.added) in let b = sum_stays s.views id v at (λ u. u.added) rest refl in
      omega arith)
      part_holding
      (λ a i. dite (ℕ_discrete a new)
      (λ e. ap (λ k. count i (view_at views2 k).claims) e ∙ ap (λ (u : View T). count i u.claims) at_new
      ∙ sym (ap (λ (u : View T). count i u.claims)
      (ap (λ k. view_at s.views k) e ∙ beyond blank s.views new (omega arith))))
      (λ n. ap (λ (u : View T). count i u.claims) (at_old a n)
      ∙ stays s.views id v at (λ (u : View T). count i u.claims) rest refl a))
      (λ i. let a = sum_is (λ (v : View T). total (names i) v.armed) in
      let b = sum_stays s.views id v at (λ u. total (names i) u.armed) rest refl in omega arith)
      kept_same
      part_noting

-- whatever the table shows, it is Give to the new seat
pub is_split : (S : Type 0) {T : Type 0} (nodes node k c : ℕ) (l : List ℕ) (v : View T) → k ≤ count node v.held
    → c ≤ v.credit → (k ≡ 0 → node ≡ 0) → IsSplit S nodes node k v (rest_view node k c l v) (part_view node k c l v)
is_split S nodes node k c l v have pays end s g id r at = (
  (
    (λ pos. is_drawn nodes s g r id v at node pos
        (dite (ℕ_discrete k 0) (λ z. let e = end z in absurd (omega arith)) (λ n. omega arith))),
    (let a = my_part nodes s g r id v at node in omega arith),
  ),
  parts nodes s g r id v at node k c l have pays,
)
