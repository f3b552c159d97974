-- What records say that nodes were given, and fresh arrivals at a node, by weight.
use Rattle.std.proofs.Common.{◌≡◌, ◌≢◌, ℕ, ◌≤◌, eqb, cond, Bool, true, false, List, [], ◌∷◌, sym, refl, ap, ◌∙◌, subst}
use Rattle.std.proofs.Common.{arith, eq-eqb, ne_eqb}
use mathlib.Core.Logic.{dite}
use native.Mathlib.Decide.{ℕ_discrete}
use Rattle.completion_core.specs.Graph.{Arrival, Held, total, copies}
use Rattle.completion_core.specs.Legal.{count, only_at}
use Rattle.pending_count.specs.declared.view.View.{View}
use Rattle.pending_count.specs.Views.{names, keeps_at, given, given_by_all}
use Rattle.pending_count.specs.Shows.{kept_at, one_if}
use Rattle.pending_count.proofs.SumLemmas.{one_at, total-append, total-ones, total-zeros, here, bool_case, at_here}
use Rattle.pending_count.proofs.SumLemmas.{at_else}

pub count-given : (i j : ℕ) (rs : List (ℕ × List ℕ)) → count j (given i rs) ≡ total (keeps_at i j) rs
count-given i j [] = refl
count-given i j (r ∷ rs) = let t = count-given i j rs in
    let a = total-append (one_at j) (cond (eqb r.0 i) r.1 []) (given i rs) in
    let h : count j (cond (eqb r.0 i) r.1 []) ≡ keeps_at i j r =
    bool_case (eqb r.0 i) (count j (cond (eqb r.0 i) r.1 []) ≡ cond (eqb r.0 i) (count j r.1) 0)
    (λ e. subst (λ b. count j (cond b r.1 []) ≡ cond b (count j r.1) 0) (sym e) refl)
    (λ e. subst (λ b. count j (cond b r.1 []) ≡ cond b (count j r.1) 0) (sym e) refl) in
    omega arith

-- a record that isn't there keeps nothing
pub unnamed : (i j : ℕ) (rs : List (ℕ × List ℕ)) → total (names i) rs ≡ 0 → total (keeps_at i j) rs ≡ 0
unnamed i j [] e = refl
unnamed i j (r ∷ rs) e = let t = unnamed i j rs (omega arith) in
    let h : keeps_at i j r ≡ 0 = bool_case (eqb r.0 i) (cond (eqb r.0 i) (count j r.1) 0 ≡ 0)
    (λ e'. let one : names i r ≡ 1 = ap (λ b. cond b 1 0) e' in absurd (omega arith))
    (λ e'. ap (λ b. cond b (count j r.1) 0) e') in
    omega arith

module _ {T : Type 0} where
  pub count-given_by_all : (i j : ℕ) (vs : List (View T)) → count j (given_by_all i vs) ≡ kept_at i j vs
  count-given_by_all i j [] = refl
  count-given_by_all i j (v ∷ vs) = let t = count-given_by_all i j vs in
      let a = total-append (one_at j) (given i v.armed) (given_by_all i vs) in let h = count-given i j v.armed in
      omega arith

  pub unnamed_all : (i j : ℕ) (vs : List (View T)) → total (λ v. total (names i) v.armed) vs ≡ 0 → kept_at i j vs ≡ 0
  unnamed_all i j [] e = refl
  unnamed_all i j (v ∷ vs) e = let t = unnamed_all i j vs (omega arith) in let h = unnamed i j v.armed (omega arith) in
      omega arith

pub names_is : (i : ℕ) (r : ℕ × List ℕ) → r.0 ≡ i → names i r ≡ 1
names_is i r e = ap (λ b. cond b 1 0) (eq-eqb r.0 i e)

pub names_not : (i : ℕ) (r : ℕ × List ℕ) → r.0 ≢ i → names i r ≡ 0
names_not i r n = ap (λ b. cond b 1 0) (ne_eqb r.0 i n)

pub keeps_is : (i j : ℕ) (r : ℕ × List ℕ) → r.0 ≡ i → keeps_at i j r ≡ count j r.1
keeps_is i j r e = ap (λ b. cond b (count j r.1) 0) (eq-eqb r.0 i e)

pub keeps_not : (i j : ℕ) (r : ℕ × List ℕ) → r.0 ≢ i → keeps_at i j r ≡ 0
keeps_not i j r n = ap (λ b. cond b (count j r.1) 0) (ne_eqb r.0 i n)

pub fresh_here : (node q : ℕ) → only_at node q node ≡ q
fresh_here node q = ap (λ b. cond b q 0) (here node)

pub fresh_else : (node q i : ℕ) → i ≢ node → only_at node q i ≡ 0
fresh_else node q i n = ap (λ b. cond b q 0) (ne_eqb i node n)

pub fresh-one : (f : Arrival → ℕ) (node q id i : ℕ) → f (Held id) ≡ 1
    → total f (cond (eqb i node) (copies q (Held id)) []) ≡ only_at node q i
fresh-one f node q id i e = bool_case (eqb i node)
    (total f (cond (eqb i node) (copies q (Held id)) []) ≡ only_at node q i)
    (λ b. subst (λ b. total f (cond b (copies q (Held id)) []) ≡ cond b q 0) (sym b) (total-ones f q (Held id) e))
    (λ b. subst (λ b. total f (cond b (copies q (Held id)) []) ≡ cond b q 0) (sym b) refl)

pub fresh-zero : (f : Arrival → ℕ) (node q id i : ℕ) → f (Held id) ≡ 0
    → total f (cond (eqb i node) (copies q (Held id)) []) ≡ 0
fresh-zero f node q id i e = bool_case (eqb i node) (total f (cond (eqb i node) (copies q (Held id)) []) ≡ 0)
    (λ b. subst (λ b. total f (cond b (copies q (Held id)) []) ≡ 0) (sym b) (total-zeros f q (Held id) e))
    (λ b. subst (λ b. total f (cond b (copies q (Held id)) []) ≡ 0) (sym b) refl)

pub fresh-count : (node q i : ℕ) → count i (copies q node) ≡ only_at node q i
fresh-count node q i = dite (ℕ_discrete i node)
    (λ e. subst (λ k. count k (copies q node) ≡ only_at node q k) (sym e)
    (total-ones (one_at node) q node (at_here node) ∙ sym (fresh_here node q)))
    (λ n. total-zeros (one_at i) q node (at_else i node (λ e. n (sym e))) ∙ sym (fresh_else node q i n))

-- where k entries are there, a list of k of them is a part of what is there
pub copies_fit : (node k : ℕ) (held : List ℕ) → k ≤ count node held → (i : ℕ) → count i (copies k node) ≤ count i held
copies_fit node k held enough i = dite (ℕ_discrete i node)
    (λ e. subst (λ j. count j (copies k node) ≤ count j held) (sym e)
    (let f = fresh-count node k node in let h = fresh_here node k in omega arith))
    (λ n. let f = fresh-count node k i in let z = fresh_else node k i n in omega arith)
