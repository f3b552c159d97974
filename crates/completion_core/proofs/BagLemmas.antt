-- How often a node stands in a list, in its beginnings and in an ordered list.
use Rattle.std.proofs.Common.{◌≡◌, ◌≢◌, ℕ, zero, suc, ◌+◌, ◌-◌, ◌<◌, ◌≤◌, eqb, cond, List, [], ◌∷◌, length, get_or}
use Rattle.std.proofs.Common.{take, sym, refl, ap, ◌∙◌, subst, arith, eq-eqb, ne_eqb}
use mathlib.Core.Logic.{dite}
use native.Mathlib.Decide.{ℕ_discrete}
use Rattle.std.specs.List.{All}
use Rattle.std.specs.List.Sorted.{IsNonDecreasing}
use Rattle.std.proofs.lemmas.List.{take_more}
use Rattle.completion_core.specs.Legal.{only_at, count}
use Rattle.completion_core.specs.Bags.{HoldsUpTo}
use Rattle.completion_core.proofs.TotalLemmas.{by_bool, total-append, at_here, at_else}

pub count-take-more : (i : ℕ) (xs : List ℕ) (p : ℕ) → p < length xs
    → count i (take (p + 1) xs) ≡ count i (take p xs) + only_at i 1 (get_or xs p 0)
count-take-more i xs p h = ap (count i) (take_more xs p 0 h)
    ∙ (let e = total-append (only_at i 1) (take p xs) (get_or xs p 0 ∷ []) in omega arith)

pub count-take-le : (i : ℕ) (p : ℕ) (xs : List ℕ) → count i (take p xs) ≤ count i xs
count-take-le i zero xs = omega arith
count-take-le i (suc p) [] = omega arith
count-take-le i (suc p) (x ∷ xs) = let r = count-take-le i p xs in omega arith

-- what stands in the list is one of its elements
pub count_zero : (i : ℕ) (xs : List ℕ) → ((k : ℕ) → k < length xs → get_or xs k 0 ≢ i) → count i xs ≡ 0
count_zero i [] h = refl
count_zero i (x ∷ xs) h = let z : only_at i 1 x ≡ 0 = at_else i 1 x (h 0 (omega arith)) in
    let r = count_zero i xs (λ k l. h (suc k) (omega arith)) in omega arith

pub all_counted : (P : ℕ → Type 0) (xs : List ℕ) → All P xs → (i : ℕ) → 0 < count i xs → P i
all_counted P [] h i c = absurd (omega arith)
all_counted P (x ∷ xs) h i c = dite (ℕ_discrete x i)
    (λ e. subst P e (h 0 0 (omega arith)))
    (λ n. let z : only_at i 1 x ≡ 0 = at_else i 1 x n in
    all_counted P xs (λ k d l. h (suc k) d (omega arith)) i (omega arith))

pub counted_all : (P : ℕ → Type 0) (xs : List ℕ) → ((i : ℕ) → 0 < count i xs → P i) → All P xs
counted_all P [] h k d l = absurd (omega arith)
counted_all P (x ∷ xs) h zero d l = h x (let e = at_here x 1 in omega arith)
counted_all P (x ∷ xs) h (suc k) d l = counted_all P xs (λ i c. h i (omega arith)) k d (omega arith)

length_take : (p : ℕ) (xs : List ℕ) → p ≤ length xs → length (take p xs) ≡ p
length_take zero xs h = refl
length_take (suc p) [] h = absurd (omega arith)
length_take (suc p) (x ∷ xs) h = let r = length_take p xs (omega arith) in omega arith

get_or_take : (p : ℕ) (xs : List ℕ) (k : ℕ) → k < p → get_or (take p xs) k 0 ≡ get_or xs k 0
get_or_take zero xs k h = absurd (omega arith)
get_or_take (suc p) [] k h = refl
get_or_take (suc p) (x ∷ xs) zero h = refl
get_or_take (suc p) (x ∷ xs) (suc k) h = get_or_take p xs k (omega arith)

-- the node at p stands as often up to there as the walk counts it
pub alike_next : (xs : List ℕ) (held : ℕ → ℕ) (p alike before : ℕ) → IsNonDecreasing xs → p < length xs
    → HoldsUpTo xs held p alike before
    → count (get_or xs p 0) (take (p + 1) xs) ≡ cond (eqb (get_or xs p 0) before) (alike + 1) 1
alike_next xs held p alike before up h r =
    let node : ℕ = get_or xs p 0 in
    let one : only_at node 1 node ≡ 1 = at_here node 1 in
    let more : count node (take (p + 1) xs) ≡ count node (take p xs) + only_at node 1 node =
    count-take-more node xs p h in
    dite (ℕ_discrete node before)
    (λ e. let same : count node (take p xs) ≡ alike = ap (λ i. count i (take p xs)) e ∙ r.alike_is in
    let test : cond (eqb node before) (alike + 1) 1 ≡ alike + 1 =
    ap (λ b. cond b (alike + 1) 1) (eq-eqb node before e) in
    omega arith)
    (λ n. let none_before : count node (take p xs) ≡ 0 = count_zero node (take p xs) (λ k l e.
    let len : length (take p xs) ≡ p = length_take p xs (omega arith) in
    let k_in : k < p = omega arith in
    let there : get_or xs k 0 ≡ node = sym (get_or_take p xs k k_in) ∙ e in
    let last_is : before ≡ get_or xs (p - 1) 0 = r.before_is (omega arith) in
    let up_to : get_or xs k 0 ≤ get_or xs (p - 1) 0 = up k (p - 1) 0 (omega arith) (omega arith) in
    let up_from : get_or xs (p - 1) 0 ≤ get_or xs p 0 = up (p - 1) p 0 (omega arith) h in
    n (omega arith)) in
    let test : cond (eqb node before) (alike + 1) 1 ≡ 1 = ap (λ b. cond b (alike + 1) 1) (ne_eqb node before n) in
    omega arith)

pub walk_on : (xs : List ℕ) (held : ℕ → ℕ) (p alike before next : ℕ) → p < length xs → HoldsUpTo xs held p alike before
    → count (get_or xs p 0) (take (p + 1) xs) ≡ next → next ≤ alike + 1 → next ≤ held (get_or xs p 0)
    → HoldsUpTo xs held (p + 1) next (get_or xs p 0)
walk_on xs held p alike before next h r is small enough = record {
  enough = λ i. dite (ℕ_discrete i (get_or xs p 0))
      (λ e. subst (λ j. count j (take (p + 1) xs) ≤ held j) (sym e) (omega arith))
      (λ n. let e = count-take-more i xs p h in
      let z : only_at i 1 (get_or xs p 0) ≡ 0 = at_else i 1 (get_or xs p 0) (λ u. n (sym u)) in
      let old = r.enough i in omega arith);
  alike_is = is;
  before_is = λ _. ap (λ k. get_or xs k 0) (omega arith);
  few = let f = r.few in omega arith;
}

-- one node more, which the list has `next` times so far; n of them are held
module _ (xs ys : List ℕ) (same : ys ≡ xs) (held : ℕ → ℕ) (p alike before next n : ℕ) (up : IsNonDecreasing xs)
    (h : p < length ys) (r : HoldsUpTo xs held p alike before)
    (is : next ≡ cond (eqb (get_or ys p 0) before) (alike + 1) 1) (told : n ≡ held (get_or ys p 0)) where
  h' : p < length xs
  h' = subst (λ l. p < length l) same h

  there : get_or ys p 0 ≡ get_or xs p 0
  there = ap (λ l. get_or l p 0) same

  counted : count (get_or xs p 0) (take (p + 1) xs) ≡ next
  counted = alike_next xs held p alike before up h' r ∙ ap (λ (x : ℕ). cond (eqb x before) (alike + 1) 1) (sym there)
      ∙ sym is

  told' : n ≡ held (get_or xs p 0)
  told' = told ∙ ap held there

  small : next ≤ alike + 1
  small = by_bool (eqb (get_or ys p 0) before) (λ m. next ≡ m → next ≤ alike + 1) (alike + 1) 1 (λ e u. omega arith)
      (λ e u. omega arith) is

  pub walks_on : next ≤ n → HoldsUpTo xs held (p + 1) next (get_or ys p 0)
  walks_on enough = subst (λ x. HoldsUpTo xs held (p + 1) next x) (sym there)
      (walk_on xs held p alike before next h' r counted small (let t = told' in omega arith))

  pub too_few : n < next → ((i : ℕ) → count i xs ≤ held i) → ⊥
  too_few less all = let a = all (get_or xs p 0) in let b = count-take-le (get_or xs p 0) (p + 1) xs in
      let c = counted in let t = told' in omega arith
