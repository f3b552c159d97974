-- Whole lists of actions: what each legal action keeps, and what follows for a list.
use Rattle.std.proofs.Common.{◌≡◌, ◌≢◌, ℕ, zero, suc, ◌+◌, ◌<◌, ◌≤◌, eqb, ltb, cond, Bool, true, false, List, [], ◌∷◌}
use Rattle.std.proofs.Common.{◌++◌, take, Option, Some, ◌⊎◌, inl, inr, sym, refl, ap, ◌∙◌, subst, arith, ne_eqb}
use Rattle.std.proofs.Common.{true≢false, append-nil}
use mathlib.Core.Logic.{dite}
use native.Mathlib.Decide.{ℕ_discrete}
use Rattle.std.specs.List.{All, AllPairs, slice_get}
use Rattle.completion_core.specs.declared.action.Action.{Action}
use Rattle.completion_core.specs.declared.action.Action.TheVariants.{Claim, Arm, Add, Give, Arrive, Run, Settle}
use Rattle.completion_core.specs.Graph.{Arrival, Made, Held, Kept, not_made, copies, amount, left, Graph, start}
use Rattle.completion_core.specs.Legal.{rename, renamed, only_at, count, upd, Legal, after}
use Rattle.completion_core.specs.Runs.{LegalAll, after_all, log}
use Rattle.completion_core.specs.Laws.{IsAt, RunsOnce, RunsAfterAll}
use Rattle.completion_core.proofs.TotalLemmas.{by_bool, at_here, at_else, upd_here, upd_else, rename-none, same_after}
use Rattle.completion_core.proofs.TotalLemmas.{fewer_after, held_left}

-- lists of actions, one more at the end
pub after_all-append : (xs ys : List Action) (g : Graph) → after_all (xs ++ ys) g ≡ after_all ys (after_all xs g)
after_all-append [] ys g = refl
after_all-append (x ∷ xs) ys g = after_all-append xs ys (after x g)

pub legal_all-append : (xs ys : List Action) (g : Graph) → LegalAll xs g → LegalAll ys (after_all xs g)
    → LegalAll (xs ++ ys) g
legal_all-append [] ys g l m = m
legal_all-append (x ∷ xs) ys g l m = (l.0, legal_all-append xs ys (after x g) l.1 m)

pub legal_all-rest : (xs ys : List Action) (g : Graph) → LegalAll (xs ++ ys) g → LegalAll ys (after_all xs g)
legal_all-rest [] ys g l = l
legal_all-rest (x ∷ xs) ys g l = legal_all-rest xs ys (after x g) l.1

pub legal_all-first : (xs ys : List Action) (g : Graph) → LegalAll (xs ++ ys) g → LegalAll xs g
legal_all-first [] ys g l = tt
legal_all-first (x ∷ xs) ys g l = (l.0, legal_all-first xs ys (after x g) l.1)

pub legal_at : (xs : List Action) (i : ℕ) (x : Action) (g : Graph) → slice_get xs i ≡ Some x → LegalAll xs g
    → Legal x (after_all (take i xs) g)
legal_at [] i x g e l = cc
legal_at (y ∷ xs) zero x g e l = let same : y ≡ x = cc in subst (λ a. Legal a g) same l.0
legal_at (y ∷ xs) (suc i) x g e l = legal_at xs i x (after y g) e l.1

pub log-append : (xs ys : List Action) → log (xs ++ ys) ≡ log xs ++ log ys
log-append [] ys = refl
log-append (Claim a ∷ xs) ys = log-append xs ys
log-append (Arm a node pending onward ∷ xs) ys = log-append xs ys
log-append (Add a node d ∷ xs) ys = log-append xs ys
log-append (Give a b node k ∷ xs) ys = log-append xs ys
log-append (Arrive a node ∷ xs) ys = log-append xs ys
log-append (Run a node ∷ xs) ys = ap (λ l. node ∷ l) (log-append xs ys)
log-append (Settle a ∷ xs) ys = log-append xs ys

-- what a node that ran was: drawn, armed, and without an arrival left
pub record Sound (g : Graph) : Type 0 where
  pub bare : (i : ℕ) → 0 < i → g.armed i ≡ false → g.arrivals i ≡ []
  pub lasts : (i a : ℕ) → g.last i ≡ Some a → g.armed i ≡ true
  pub done : (i : ℕ) → g.ran i ≡ true → (0 < i) × (g.armed i ≡ true) × (left (g.arrivals i) ≡ 0)

pub sound_start : (nodes ends : ℕ) → Sound (start nodes ends)
sound_start nodes ends = record {
  bare = λ i p u. ap (λ b. cond b (copies ends (Held 0)) []) (ne_eqb i 0 (λ e. absurd (omega arith)));
  lasts = λ i a e. cc;
  done = λ i e. absurd (true≢false (sym e));
}

fits_at : (g : Graph) (a node k : ℕ) → k ≤ amount (Held a) (g.arrivals node) → (i : ℕ)
    → only_at node k i ≤ amount (Held a) (g.arrivals i)
fits_at g a node k have i = dite (ℕ_discrete i node)
    (λ e. subst (λ j. only_at node k j ≤ amount (Held a) (g.arrivals j)) (sym e)
    (let h = at_here node k in omega arith))
    (λ n. let h = at_else node k i n in omega arith)

-- who holds an arrival at a node other than END holds it at an armed node, which has some left
held_armed : (g : Graph) → Sound g → (a node : ℕ) → 0 < node → 0 < amount (Held a) (g.arrivals node)
    → g.armed node ≡ true
held_armed g s a node p have = by_bool (g.armed node) (λ (b : Bool). g.armed node ≡ b → g.armed node ≡ true) true false
    (λ e _. e) (λ e _. let none_there : amount (Held a) (g.arrivals node) ≡ 0 =
    ap (amount (Held a)) (s.bare node p e) in absurd (omega arith))
    (same (g.armed node))
  where
    same : (b : Bool) → b ≡ cond b true false
    same true = refl
    same false = refl

not_ran : (g : Graph) → Sound g → (a node : ℕ) → 0 < amount (Held a) (g.arrivals node) → g.ran node ≡ true → ⊥
not_ran g s a node have e = let z = (s.done node e).2 in let h = held_left a (g.arrivals node) in absurd (omega arith)

-- arrivals that are renamed at one node
module _ (g : Graph) (s : Sound g) (a node k : ℕ) (z : Arrival) (have : k ≤ amount (Held a) (g.arrivals node)) where
  abbrev moved : ℕ → List Arrival
  moved = renamed (Held a) z (only_at node k) g.arrivals

  moved_bare : (i : ℕ) → 0 < i → g.armed i ≡ false → moved i ≡ []
  moved_bare i p u = ap (rename (only_at node k i) (Held a) z) (s.bare i p u)
      ∙ rename-none (only_at node k i) (Held a) z

  moved_done : (not_made z ≡ 1) ⊎ (not_made z ≡ 0) → (i : ℕ) → left (g.arrivals i) ≡ 0 → left (moved i) ≡ 0
  moved_done (inl one) i e = same_after (Held a) z (only_at node k) g.arrivals (fits_at g a node k have) not_made
      (sym one) i ∙ e
  moved_done (inr none) i e = let f = fewer_after (Held a) z (only_at node k) g.arrivals (fits_at g a node k have)
      not_made refl none i in omega arith

pub sound_after : (action : Action) (g : Graph) → Legal action g → Sound g → Sound (after action g)
sound_after (Claim a) g l s =
    by_bool (ltb g.drawn g.nodes) Sound (record g { drawn = g.drawn + 1; claimer = upd g.claimer (g.drawn + 1) a }) g
    (λ _. record { bare = s.bare; lasts = s.lasts; done = s.done }) (λ _. s)
sound_after (Arm a node pending onward) g l s = record {
  bare = λ i p u. dite (ℕ_discrete i node)
      (λ e. absurd (true≢false (sym (upd_here g.armed node true) ∙ ap (upd g.armed node true) (sym e) ∙ u)))
      (λ n. ap (λ c. renamed (Held a) (Kept node) (λ j. count j onward) g.arrivals i
      ++ cond c (copies (pending + 1) (Held a)) []) (ne_eqb i node n)
      ∙ append-nil _ ∙ ap (rename (count i onward) (Held a) (Kept node))
      (s.bare i p (sym (upd_else g.armed node true i n) ∙ u)) ∙ rename-none (count i onward) (Held a) (Kept node));
  lasts = λ i b e. dite (ℕ_discrete i node) (λ h. ap (upd g.armed node true) h ∙ upd_here g.armed node true)
      (λ n. upd_else g.armed node true i n ∙ s.lasts i b e);
  done = λ i e.
      let d = s.done i e in
      let n : i ≢ node = (λ h. true≢false (sym d.1 ∙ ap g.armed h ∙ l.2)) in (
        d.0,
        upd_else g.armed node true i n ∙ d.1,
        ap left (ap (λ c. renamed (Held a) (Kept node) (λ j. count j onward) g.arrivals i
            ++ cond c (copies (pending + 1) (Held a)) []) (ne_eqb i node n) ∙ append-nil _)
            ∙ same_after (Held a) (Kept node) (λ j. count j onward) g.arrivals l.3 not_made refl i ∙ d.2,
      );
}
sound_after (Add a node d) g l s = record {
  bare = λ i p u. dite (ℕ_discrete i node)
      (λ e. absurd (true≢false (sym (held_armed g s a node l.0.0 l.1) ∙ ap g.armed (sym e) ∙ u)))
      (λ n. ap (λ c. g.arrivals i ++ cond c (copies d (Held a)) []) (ne_eqb i node n) ∙ append-nil _ ∙ s.bare i p u);
  lasts = s.lasts;
  done = λ i e.
      let o = s.done i e in
      let n : i ≢ node = (λ h. not_ran g s a node l.1 (ap g.ran (sym h) ∙ e)) in (
        o.0,
        o.1,
        ap left (ap (λ c. g.arrivals i ++ cond c (copies d (Held a)) []) (ne_eqb i node n) ∙ append-nil _)
            ∙ o.2,
      );
}
sound_after (Give a b node k) g l s = record {
  bare = moved_bare g s a node k (Held b) l.1;
  lasts = s.lasts;
  done = λ i e. let o = s.done i e in (o.0, o.1, moved_done g s a node k (Held b) l.1 (inl refl) i o.2);
}
sound_after (Arrive a node) g l s = let have : 1 ≤ amount (Held a) (g.arrivals node) = omega (arith, l.1) in record {
  bare = moved_bare g s a node 1 Made have;
  lasts = λ i b e. by_bool (eqb (left (renamed (Held a) Made (only_at node 1) g.arrivals node)) 0)
      (λ (f : ℕ → Option ℕ). f i ≡ Some b → g.armed i ≡ true) (upd g.last node (Some a)) g.last
      (λ _ u. dite (ℕ_discrete i node) (λ h. ap g.armed h ∙ held_armed g s a node l.0.0 l.1)
      (λ n. s.lasts i b (sym (upd_else g.last node (Some a) i n) ∙ u)))
      (λ _ u. s.lasts i b u) e;
  done = λ i e. let o = s.done i e in (o.0, o.1, moved_done g s a node 1 Made have (inr refl) i o.2);
}
sound_after (Run a node) g l s =
    let kept : ℕ → ℕ = λ i. amount (Kept node) (g.arrivals i) in
    let same : (i : ℕ) → left (renamed (Kept node) (Held a) kept g.arrivals i) ≡ left (g.arrivals i) =
    same_after (Kept node) (Held a) kept g.arrivals (λ i. omega arith) not_made refl in
    record {
      bare = λ i p u. ap (rename (kept i) (Kept node) (Held a)) (s.bare i p u)
          ∙ rename-none (kept i) (Kept node) (Held a);
      lasts = s.lasts;
      done = λ i e. dite (ℕ_discrete i node)
          (λ h. (
            subst (λ j. 0 < j) (sym h) l.0.0,
            ap g.armed h ∙ s.lasts node a l.3,
            same i ∙ ap (λ j. left (g.arrivals j)) h ∙ l.2,
          ))
          (λ n. let o = s.done i (sym (upd_else g.ran node true i n) ∙ e) in (o.0, o.1, same i ∙ o.2));
    }
sound_after (Settle a) g l s = let have : 1 ≤ amount (Held a) (g.arrivals 0) = omega (arith, l) in record {
  bare = moved_bare g s a 0 1 Made have;
  lasts = s.lasts;
  done = λ i e. let o = s.done i e in (o.0, o.1, moved_done g s a 0 1 Made have (inr refl) i o.2);
}

pub sound_all : (actions : List Action) (g : Graph) → LegalAll actions g → Sound g → Sound (after_all actions g)
sound_all [] g l s = s
sound_all (x ∷ xs) g l s = sound_all xs (after x g) l.1 (sound_after x g l.0 s)

-- a node that ran stays so
pub ran_stays : (action : Action) (g : Graph) (i : ℕ) → g.ran i ≡ true → (after action g).ran i ≡ true
ran_stays (Claim a) g i e = by_bool (ltb g.drawn g.nodes) (λ (h : Graph). h.ran i ≡ true)
    (record g { drawn = g.drawn + 1; claimer = upd g.claimer (g.drawn + 1) a }) g (λ _. e) (λ _. e)
ran_stays (Arm a node pending onward) g i e = e
ran_stays (Add a node d) g i e = e
ran_stays (Give a b node k) g i e = e
ran_stays (Arrive a node) g i e = e
ran_stays (Run a node) g i e = dite (ℕ_discrete i node) (λ h. ap (upd g.ran node true) h ∙ upd_here g.ran node true)
    (λ n. upd_else g.ran node true i n ∙ e)
ran_stays (Settle a) g i e = e

-- nothing is legal at a node that ran
not_at : (action : Action) (g : Graph) (i : ℕ) → Legal action g → Sound g → g.ran i ≡ true → IsAt i action → ⊥
not_at (Arm a node pending onward) g i l s e is = true≢false (sym (s.done i e).1 ∙ ap g.armed (sym is) ∙ l.2)
not_at (Add a node d) g i l s e is = not_ran g s a node l.1 (ap g.ran is ∙ e)
not_at (Arrive a node) g i l s e is = not_ran g s a node l.1 (ap g.ran is ∙ e)
not_at action g i l s e is = is

all-cons : {A : Type 0} (P : A → Type 0) (x : A) (xs : List A) → P x → All P xs → All P (x ∷ xs)
all-cons P x xs p ps zero d h = p
all-cons P x xs p ps (suc k) d h = ps k d (omega arith)

quiet : (actions : List Action) (g : Graph) (i : ℕ) → LegalAll actions g → Sound g → g.ran i ≡ true
    → All (λ action. ¬ IsAt i action) actions
quiet [] g i l s e = λ k d h. absurd (omega arith)
quiet (x ∷ xs) g i l s e = all-cons (λ action. ¬ IsAt i action) x xs (not_at x g i l.0 s e)
    (quiet xs (after x g) i l.1 (sound_after x g l.0 s) (ran_stays x g i e))

pub none_left : (xs : List Arrival) → left xs ≡ 0 → All (λ x. x ≡ Made) xs
none_left [] e = λ k d h. absurd (omega arith)
none_left (Made ∷ xs) e = all-cons (λ x. x ≡ Made) Made xs refl (none_left xs (omega arith))
none_left (Held a ∷ xs) e = absurd (omega arith)
none_left (Kept i ∷ xs) e = absurd (omega arith)

pub runs_after_all : (actions : List Action) (nodes ends : ℕ) → LegalAll actions (start nodes ends)
    → RunsAfterAll actions (start nodes ends)
runs_after_all actions nodes ends l before later a node e =
    let g : Graph = after_all before (start nodes ends) in
    let l' : LegalAll (before ++ Run a node ∷ later) (start nodes ends) =
    subst (λ xs. LegalAll xs (start nodes ends)) e l in
    let rest = legal_all-rest before (Run a node ∷ later) (start nodes ends) l' in
    let s = sound_all before (start nodes ends) (legal_all-first before (Run a node ∷ later) (start nodes ends) l')
    (sound_start nodes ends) in (
      rest.0.0.0,
      none_left (g.arrivals node) rest.0.2,
      quiet later (after (Run a node) g) node rest.1 (sound_after (Run a node) g rest.0 s) (upd_here g.ran node true),
    )

-- no node runs twice
apart : (actions : List Action) (g : Graph) (i : ℕ) → LegalAll actions g → g.ran i ≡ true
    → All (λ node. i ≢ node) (log actions)
apart [] g i l e = λ k d h. absurd (omega arith)
apart (Claim a ∷ xs) g i l e = apart xs (after (Claim a) g) i l.1 (ran_stays (Claim a) g i e)
apart (Arm a node pending onward ∷ xs) g i l e = apart xs (after (Arm a node pending onward) g) i l.1 e
apart (Add a node d ∷ xs) g i l e = apart xs (after (Add a node d) g) i l.1 e
apart (Give a b node k ∷ xs) g i l e = apart xs (after (Give a b node k) g) i l.1 e
apart (Arrive a node ∷ xs) g i l e = apart xs (after (Arrive a node) g) i l.1 e
apart (Run a node ∷ xs) g i l e =
    all-cons (λ n. i ≢ n) node (log xs) (λ h. true≢false (sym e ∙ ap g.ran h ∙ l.0.1))
    (apart xs (after (Run a node) g) i l.1 (ran_stays (Run a node) g i e))
apart (Settle a ∷ xs) g i l e = apart xs (after (Settle a) g) i l.1 e

pairs-cons : (x : ℕ) (xs : List ℕ) → All (λ y. x ≢ y) xs → AllPairs (λ x y. x ≢ y) xs → AllPairs (λ x y. x ≢ y) (x ∷ xs)
pairs-cons x xs p ps i zero d lt h = absurd (omega arith)
pairs-cons x xs p ps zero (suc j) d lt h = p j d (omega arith)
pairs-cons x xs p ps (suc i) (suc j) d lt h = ps i j d (omega arith) (omega arith)

pub runs_once : (actions : List Action) (g : Graph) → LegalAll actions g → RunsOnce (log actions)
runs_once [] g l = λ i j d lt h. absurd (omega arith)
runs_once (Claim a ∷ xs) g l = runs_once xs (after (Claim a) g) l.1
runs_once (Arm a node pending onward ∷ xs) g l = runs_once xs (after (Arm a node pending onward) g) l.1
runs_once (Add a node d ∷ xs) g l = runs_once xs (after (Add a node d) g) l.1
runs_once (Give a b node k ∷ xs) g l = runs_once xs (after (Give a b node k) g) l.1
runs_once (Arrive a node ∷ xs) g l = runs_once xs (after (Arrive a node) g) l.1
runs_once (Run a node ∷ xs) g l = pairs-cons node (log xs)
    (apart xs (after (Run a node) g) node l.1 (upd_here g.ran node true)) (runs_once xs (after (Run a node) g) l.1)
runs_once (Settle a ∷ xs) g l = runs_once xs (after (Settle a) g) l.1
