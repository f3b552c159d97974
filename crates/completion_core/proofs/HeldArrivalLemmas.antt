-- Arrivals in one actor's hands, as the store counts them.
use Rattle.std.proofs.Common.{◌≡◌, ℕ, eqb, cond, ◌&&◌, true, List, refl, ap, ◌∙◌, sym, eq-eqb, ne_eqb}
use mathlib.Core.Logic.{dite}
use native.Mathlib.Decide.{ℕ_discrete}
use Rattle.completion_core.specs.Graph.{Held, total, copies, one_same}
use Rattle.completion_core.specs.Legal.{only_at, count}
use Rattle.completion_core.specs.Holdings.{place, each_place}
use Rattle.completion_core.proofs.TotalLemmas.{by_bool, total-ones, total-zeros, one_held, self_held}
use Rattle.completion_core.proofs.HoldingLemmas.{each_place-self, each_place-other}

-- k arrivals in one actor's hands are k for this actor at this node, and none for others or elsewhere
pub place_is : (a node k x i : ℕ) → total (one_same (Held x)) (copies (only_at node k i) (Held a)) ≡ place a node k x i
place_is a node k x i = dite (ℕ_discrete i node)
    (λ e. let at : only_at node k i ≡ k = ap (λ b. cond b k 0) (eq-eqb i node e) in
    let key : eqb node i ≡ true = eq-eqb node i (sym e) in
    dite (ℕ_discrete x a)
    (λ u. ap (λ n. total (one_same (Held x)) (copies n (Held a))) at
    ∙ ap (λ y. total (one_same (Held x)) (copies k (Held y))) (sym u)
    ∙ total-ones (one_same (Held x)) k (Held x) (self_held x)
    ∙ sym (ap (λ b. cond (b && eqb a x) k 0) key ∙ ap (λ b. cond b k 0) (eq-eqb a x (sym u))))
    (λ n. total-zeros (one_same (Held x)) (only_at node k i) (Held a) (one_held x a n)
    ∙ sym (ap (λ b. cond (b && eqb a x) k 0) key ∙ ap (λ b. cond b k 0) (ne_eqb a x (λ h. n (sym h))))))
    (λ n. ap (λ m. total (one_same (Held x)) (copies m (Held a))) (ap (λ b. cond b k 0) (ne_eqb i node n))
    ∙ sym (ap (λ b. cond (b && eqb a x) k 0) (ne_eqb node i (λ h. n (sym h)))))

-- one arrival at each node of a list is one for this actor there, and none for others or elsewhere
pub each_place_is : (a : ℕ) (nodes : List ℕ) (x i : ℕ)
    → total (one_same (Held x)) (copies (count i nodes) (Held a)) ≡ each_place a nodes x i
each_place_is a nodes x i = dite (ℕ_discrete x a)
    (λ e. ap (λ y. total (one_same (Held y)) (copies (count i nodes) (Held a))) e
    ∙ total-ones (one_same (Held a)) (count i nodes) (Held a) (self_held a) ∙ sym (each_place-self a nodes i)
    ∙ ap (λ y. each_place a nodes y i) (sym e))
    (λ n. total-zeros (one_same (Held x)) (count i nodes) (Held a) (one_held x a n)
    ∙ sym (each_place-other a nodes x i n))

pub place-none : (a node x i : ℕ) → place a node 0 x i ≡ 0
place-none a node x i = by_bool (eqb node i && eqb a x) (λ n. n ≡ 0) 0 0 (λ e. refl) (λ e. refl)
