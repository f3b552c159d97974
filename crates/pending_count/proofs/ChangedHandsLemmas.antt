-- Arrivals that change hands: all of one kind, or the arrivals of some slots.
use Rattle.std.proofs.Common.{◌≡◌, ◌≢◌, ℕ, zero, suc, ◌+◌, ◌<◌, ◌≤◌, eqb, cond, List, [], ◌∷◌, sym, refl, ap, ◌∙◌}
use Rattle.std.proofs.Common.{subst, arith, eq-eqb, ne_eqb, ◌⊎◌, inl, inr, ⊎_elim}
use mathlib.Core.Logic.{dite}
use native.Mathlib.Decide.{ℕ_discrete}
use Rattle.completion_core.specs.Graph.{Arrival, Held, same, one_same, total, copies, amount}
use Rattle.completion_core.specs.Legal.{rename, count}
use Rattle.pending_count.specs.declared.view.View.{View}
use Rattle.pending_count.specs.Views.{left_slot, right_slot, side_at, sides_of, names, given, minus, sides_given_by_all}
use Rattle.pending_count.specs.Pairs.{side_kept_at}
use Rattle.pending_count.proofs.SumLemmas.{one_at, total-append, total-minus, bool_case, self_held, one_held, at_here}
use Rattle.pending_count.proofs.SumLemmas.{at_else, same_is}
use Rattle.pending_count.proofs.RecordLemmas.{count-given, unnamed}
use Rattle.pending_count.proofs.RuleLemmas.{mine}

-- all that are x become y
module _ (x y : Arrival) where
  abbrev pub turn : Arrival → Arrival
  turn z = cond (same x z) y z

  pub turn_is : (z : Arrival) → ((one_same x z ≡ 1) × (z ≡ x) × (turn z ≡ y)) ⊎ ((one_same x z ≡ 0) × (turn z ≡ z))
  turn_is z = bool_case (same x z) (((one_same x z ≡ 1) × (z ≡ x) × (turn z ≡ y)) ⊎ ((one_same x z ≡ 0) × (turn z ≡ z)))
      (λ e. inl (ap (λ b. cond b 1 0) e, sym (same_is x z e), ap (λ b. cond b y z) e))
      (λ e. inr (ap (λ b. cond b 1 0) e, ap (λ b. cond b y z) e))

  none_turned : (f : Arrival → ℕ) (xs : List Arrival) → amount x xs ≡ 0 → total f xs ≡ total (λ z. f (turn z)) xs
  none_turned f [] e = refl
  none_turned f (z ∷ zs) e = let r = none_turned f zs (omega arith) in ⊎_elim
      (λ (h : (one_same x z ≡ 1) × (z ≡ x) × (turn z ≡ y)). let a = h.0 in absurd (omega arith))
      (λ (h : (one_same x z ≡ 0) × (turn z ≡ z)). let a : f (turn z) ≡ f z = ap f h.1 in omega arith)
      (turn_is z)

  pub all_turned : (f : Arrival → ℕ) (m : ℕ) (xs : List Arrival) → m ≡ amount x xs
      → total f (rename m x y xs) ≡ total (λ z. f (turn z)) xs
  all_turned f zero xs e = none_turned f xs (sym e)
  all_turned f (suc m) [] e = refl
  all_turned f (suc m) (z ∷ zs) e = bool_case (same x z)
      (total f (cond (same x z) (y ∷ rename m x y zs) (z ∷ rename (suc m) x y zs)) ≡ total (λ z. f (turn z)) (z ∷ zs))
      (λ h. let one : one_same x z ≡ 1 = ap (λ b. cond b 1 0) h in let r = all_turned f m zs (omega arith) in
      let a : f (turn z) ≡ f y = ap f (ap (λ b. cond b y z) h) in
      subst (λ b. total f (cond b (y ∷ rename m x y zs) (z ∷ rename (suc m) x y zs))
      ≡ f (turn z) + total (λ z. f (turn z)) zs) (sym h) (omega arith))
      (λ h. let none_here : one_same x z ≡ 0 = ap (λ b. cond b 1 0) h in
      let r = all_turned f (suc m) zs (omega arith) in let a : f (turn z) ≡ f z = ap f (ap (λ b. cond b y z) h) in
      subst (λ b. total f (cond b (y ∷ rename m x y zs) (z ∷ rename (suc m) x y zs))
      ≡ f (turn z) + total (λ z. f (turn z)) zs) (sym h) (omega arith))

-- the sides of some slots, which a holds, become z
module _ (side : ℕ → Arrival) (l : List ℕ) (a : ℕ) (z : Arrival) (in_l : (k : ℕ) → 0 < count k l → side k ≡ Held a)
    (once : (k : ℕ) → count k l ≤ 1) where
  abbrev pub moved : ℕ → Arrival
  moved k = cond (eqb (count k l) 0) (side k) z

  pub moved_out : (k : ℕ) → count k l ≡ 0 → moved k ≡ side k
  moved_out k e = ap (λ b. cond b (side k) z) (eq-eqb (count k l) 0 e)

  pub moved_in : (k : ℕ) → 0 < count k l → moved k ≡ z
  moved_in k h = ap (λ b. cond b (side k) z) (ne_eqb (count k l) 0 (λ e. omega arith))

  pub moved_is : (k : ℕ) → ((count k l ≡ 0) × (moved k ≡ side k))
      ⊎ ((count k l ≡ 1) × (moved k ≡ z) × (side k ≡ Held a))
  moved_is k = dite (ℕ_discrete (count k l) 0) (λ e. inl (e, moved_out k e))
      (λ n. let o = once k in inr (omega arith, moved_in k (omega arith), in_l k (omega arith)))

  pub both_moved : (f : Arrival → ℕ) (xs ys : List Arrival) (m j k : ℕ)
      → total f ys + total f (copies m (Held a)) ≡ total f xs + total f (copies m z) → m ≡ count j l + count k l
      → total f xs ≡ f (side j) + f (side k) → total f ys ≡ f (moved j) + f (moved k)
  both_moved f xs ys m j k weighs is was =
      let copied : (y : Arrival) (n : ℕ) → m ≡ n → total f (copies m y) ≡ total f (copies n y) =
      λ y n e. ap (λ n. total f (copies n y)) e in ⊎_elim
      (λ (p : (count j l ≡ 0) × (moved j ≡ side j)). let fj = ap f p.1 in let cj = p.0 in ⊎_elim
      (λ (q : (count k l ≡ 0) × (moved k ≡ side k)). let fk = ap f q.1 in let ck = q.0 in
      let c = copied (Held a) 0 (omega arith) in let d = copied z 0 (omega arith) in omega arith)
      (λ (q : (count k l ≡ 1) × (moved k ≡ z) × (side k ≡ Held a)). let fk = ap f q.1 in let ck = q.0 in
      let gk = ap f q.2 in let c = copied (Held a) 1 (omega arith) in let d = copied z 1 (omega arith) in
      omega arith)
      (moved_is k))
      (λ (p : (count j l ≡ 1) × (moved j ≡ z) × (side j ≡ Held a)). let fj = ap f p.1 in let cj = p.0 in
      let gj = ap f p.2 in ⊎_elim
      (λ (q : (count k l ≡ 0) × (moved k ≡ side k)). let fk = ap f q.1 in let ck = q.0 in
      let c = copied (Held a) 1 (omega arith) in let d = copied z 1 (omega arith) in omega arith)
      (λ (q : (count k l ≡ 1) × (moved k ≡ z) × (side k ≡ Held a)). let fk = ap f q.1 in let ck = q.0 in
      let gk = ap f q.2 in let c = copied (Held a) 2 (omega arith) in let d = copied z 2 (omega arith) in
      omega arith)
      (moved_is k))
      (moved_is j)

  -- what another actor holds of them
  pub else_moved : (b : ℕ) → b ≢ a → one_same (Held b) z ≡ 0 → (k : ℕ)
      → one_same (Held b) (moved k) ≡ one_same (Held b) (side k)
  else_moved b n none_there k = ⊎_elim
      (λ (p : (count k l ≡ 0) × (moved k ≡ side k)). ap (one_same (Held b)) p.1)
      (λ (p : (count k l ≡ 1) × (moved k ≡ z) × (side k ≡ Held a)). ap (one_same (Held b)) p.1 ∙ none_there
      ∙ sym (ap (one_same (Held b)) p.2 ∙ one_held b a n))
      (moved_is k)

  -- what is left of the sides that a held
  pub rest_moved : (sides : List ℕ) → ((k : ℕ) → count k sides ≡ one_same (Held a) (side k)) → one_same (Held a) z ≡ 0
      → (k : ℕ) → count k (minus l sides) ≡ one_same (Held a) (moved k)
  rest_moved sides mine none_there k =
      let within : (k : ℕ) → count k l ≤ count k sides = (λ k. ⊎_elim
      (λ (p : (count k l ≡ 0) × (moved k ≡ side k)). let c = p.0 in omega arith)
      (λ (p : (count k l ≡ 1) × (moved k ≡ z) × (side k ≡ Held a)). let c = p.0 in let m = mine k in
      let h = ap (one_same (Held a)) p.2 in let s = self_held a in omega arith)
      (moved_is k)) in
      let t = total-minus (one_at k) l sides within in let m = mine k in ⊎_elim
      (λ (p : (count k l ≡ 0) × (moved k ≡ side k)). let c = p.0 in let f = ap (one_same (Held a)) p.1 in omega arith)
      (λ (p : (count k l ≡ 1) × (moved k ≡ z) × (side k ≡ Held a)). let c = p.0 in let f = ap (one_same (Held a)) p.1 in
      let h = ap (one_same (Held a)) p.2 in let s = self_held a in omega arith)
      (moved_is k)

-- the sides that belong to a list of nodes
count-side_at : (k n : ℕ) (sides : List ℕ) → 0 < count k (side_at n sides)
    → ((k ≡ left_slot n) ⊎ (k ≡ right_slot n)) × (0 < count k sides)
count-side_at k n sides h = dite (ℕ_discrete (count (left_slot n) sides) 0)
    (λ e. let f : side_at n sides ≡ cond (eqb (count (right_slot n) sides) 0) [] (right_slot n ∷ []) =
    ap (λ b. cond b (cond (eqb (count (right_slot n) sides) 0) [] (right_slot n ∷ [])) (left_slot n ∷ []))
    (eq-eqb _ 0 e) in
    dite (ℕ_discrete (count (right_slot n) sides) 0)
    (λ e'. let q : count k (side_at n sides) ≡ 0 =
    ap (count k) (f ∙ ap (λ b. cond b [] (right_slot n ∷ [])) (eq-eqb _ 0 e')) in absurd (omega arith))
    (λ m. let q : count k (side_at n sides) ≡ count k (right_slot n ∷ []) =
    ap (count k) (f ∙ ap (λ b. cond b [] (right_slot n ∷ [])) (ne_eqb _ 0 m)) in
    let is : k ≡ right_slot n = dite (ℕ_discrete k (right_slot n)) (λ z. z)
    (λ z. let w = at_else k (right_slot n) (λ y. z (sym y)) in absurd (omega arith)) in
    (inr is, subst (λ j. 0 < count j sides) (sym is) (omega arith))))
    (λ m. let q : count k (side_at n sides) ≡ count k (left_slot n ∷ []) =
    ap (count k) (ap (λ b. cond b (cond (eqb (count (right_slot n) sides) 0) [] (right_slot n ∷ []))
    (left_slot n ∷ [])) (ne_eqb _ 0 m)) in
    let is : k ≡ left_slot n = dite (ℕ_discrete k (left_slot n)) (λ z. z)
    (λ z. let w = at_else k (left_slot n) (λ y. z (sym y)) in absurd (omega arith)) in
    (inl is, subst (λ j. 0 < count j sides) (sym is) (omega arith)))

pub sides_within : (k : ℕ) (onward sides : List ℕ) → 0 < count k (sides_of onward sides) → 0 < count k sides
sides_within k [] sides h = absurd (omega arith)
sides_within k (n ∷ ns) sides h = let a = total-append (one_at k) (side_at n sides) (sides_of ns sides) in
    dite (ℕ_discrete (count k (side_at n sides)) 0)
    (λ e. sides_within k ns sides (omega arith))
    (λ m. (count-side_at k n sides (omega arith)).1)

-- at a node where just one side is held, each entry has that side
one_side_at : (n j : ℕ) (sides : List ℕ) → count (left_slot n) sides + count (right_slot n) sides ≡ 1
    → count (left_slot n) (side_at j sides) + count (right_slot n) (side_at j sides) ≡ one_at n j
one_side_at n j sides one = dite (ℕ_discrete j n)
    (λ e. subst (λ j. count (left_slot n) (side_at j sides) + count (right_slot n) (side_at j sides) ≡ one_at n j)
    (sym e) (here_at n sides one))
    (λ m. let z = at_else n j m in
    let a : count (left_slot n) (side_at j sides) ≡ 0 =
    dite (ℕ_discrete (count (left_slot n) (side_at j sides)) 0) (λ e. e)
    (λ h. absurd (⊎_elim (λ e. m (omega arith)) (λ e. m (omega arith))
    (count-side_at (left_slot n) j sides (omega arith)).0)) in
    let b : count (right_slot n) (side_at j sides) ≡ 0 =
    dite (ℕ_discrete (count (right_slot n) (side_at j sides)) 0) (λ e. e)
    (λ h. absurd (⊎_elim (λ e. m (omega arith)) (λ e. m (omega arith))
    (count-side_at (right_slot n) j sides (omega arith)).0)) in
    omega arith)
  where
    here_at : (n : ℕ) (sides : List ℕ) → count (left_slot n) sides + count (right_slot n) sides ≡ 1
        → count (left_slot n) (side_at n sides) + count (right_slot n) (side_at n sides) ≡ one_at n n
    here_at n sides one = let o = at_here n in
        let apart : count (left_slot n) (right_slot n ∷ []) ≡ 0 =
        (let z = at_else (left_slot n) (right_slot n) (λ e. absurd (omega arith)) in omega arith) in
        let apart' : count (right_slot n) (left_slot n ∷ []) ≡ 0 =
        (let z = at_else (right_slot n) (left_slot n) (λ e. absurd (omega arith)) in omega arith) in
        let l1 = at_here (left_slot n) in let r1 = at_here (right_slot n) in
        dite (ℕ_discrete (count (left_slot n) sides) 0)
        (λ e. let is : side_at n sides ≡ right_slot n ∷ [] =
        ap (λ b. cond b (cond (eqb (count (right_slot n) sides) 0) [] (right_slot n ∷ [])) (left_slot n ∷ []))
        (eq-eqb _ 0 e) ∙ ap (λ b. cond b [] (right_slot n ∷ []))
        (ne_eqb (count (right_slot n) sides) 0 (λ e'. absurd (omega arith))) in
        let a = ap (count (left_slot n)) is in let b = ap (count (right_slot n)) is in omega arith)
        (λ m. let is : side_at n sides ≡ left_slot n ∷ [] =
        ap (λ b. cond b (cond (eqb (count (right_slot n) sides) 0) [] (right_slot n ∷ [])) (left_slot n ∷ []))
        (ne_eqb _ 0 m) in
        let a = ap (count (left_slot n)) is in let b = ap (count (right_slot n)) is in omega arith)

pub one_side_each : (n : ℕ) (onward sides : List ℕ) → count (left_slot n) sides + count (right_slot n) sides ≡ 1
    → count (left_slot n) (sides_of onward sides) + count (right_slot n) (sides_of onward sides) ≡ count n onward
one_side_each n [] sides one = refl
one_side_each n (j ∷ js) sides one =
    let a = total-append (one_at (left_slot n)) (side_at j sides) (sides_of js sides) in
    let b = total-append (one_at (right_slot n)) (side_at j sides) (sides_of js sides) in
    let c = one_side_at n j sides one in
    let d = one_side_each n js sides one in
    omega arith

pub no_side_each : (n : ℕ) (onward sides : List ℕ) → count n onward ≡ 0
    → (count (left_slot n) (sides_of onward sides) ≡ 0) × (count (right_slot n) (sides_of onward sides) ≡ 0)
no_side_each n [] sides e = (refl, refl)
no_side_each n (j ∷ js) sides e =
    let r = no_side_each n js sides (omega arith) in
    let apart : j ≢ n = (λ h. let o : one_at n j ≡ 1 = ap (one_at n) h ∙ at_here n in absurd (omega arith)) in
    let a = total-append (one_at (left_slot n)) (side_at j sides) (sides_of js sides) in
    let b = total-append (one_at (right_slot n)) (side_at j sides) (sides_of js sides) in
    let c : count (left_slot n) (side_at j sides) ≡ 0 =
    dite (ℕ_discrete (count (left_slot n) (side_at j sides)) 0) (λ e. e)
    (λ h. absurd (⊎_elim (λ e. apart (omega arith)) (λ e. apart (omega arith))
    (count-side_at (left_slot n) j sides (omega arith)).0)) in
    let d : count (right_slot n) (side_at j sides) ≡ 0 =
    dite (ℕ_discrete (count (right_slot n) (side_at j sides)) 0) (λ e. e)
    (λ h. absurd (⊎_elim (λ e. apart (omega arith)) (λ e. apart (omega arith))
    (count-side_at (right_slot n) j sides (omega arith)).0)) in
    let x = r.0 in let y = r.1 in
    (omega arith, omega arith)

module _ {T : Type 0} where
  pub count-sides_given : (i k : ℕ) (vs : List (View T)) → count k (sides_given_by_all i vs) ≡ side_kept_at i k vs
  count-sides_given i k [] = refl
  count-sides_given i k (v ∷ vs) = let t = count-sides_given i k vs in
      let a = total-append (one_at k) (given i v.armed_sides) (sides_given_by_all i vs) in
      let h = count-given i k v.armed_sides in omega arith

  pub unnamed_sides : (i k : ℕ) (vs : List (View T)) → total (λ v. total (names i) v.armed_sides) vs ≡ 0
      → side_kept_at i k vs ≡ 0
  unnamed_sides i k [] e = refl
  unnamed_sides i k (v ∷ vs) e = let t = unnamed_sides i k vs (omega arith) in
      let h = unnamed i k v.armed_sides (omega arith) in omega arith
