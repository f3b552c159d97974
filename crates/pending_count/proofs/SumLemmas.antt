-- Sums over lists: of views, of bags of nodes, and of a node's arrivals.
use Rattle.std.proofs.Common.{◌≡◌, ◌≢◌, ℕ, zero, suc, ◌+◌, ◌<◌, ◌≤◌, cond, Bool, true, false, List, [], ◌∷◌, length}
use Rattle.std.proofs.Common.{get_or, set, sym, refl, ap, ◌∙◌, subst, arith, eq-eqb, ne_eqb, Some}
use mathlib.Core.Logic.{dite}
use mathlib.Core.Option.{some, some-injective, some-ne-none}
use native.Mathlib.Decide.{ℕ_discrete}
use lib.ListN.{get_elem?}
use Rattle.completion_core.specs.Graph.{total}
use Rattle.completion_core.specs.Legal.{only_at, count}
pub use Rattle.completion_core.proofs.TotalLemmas.{total-append, total-ones, total-zeros, total-same, total-below}
pub use Rattle.completion_core.proofs.TotalLemmas.{total-rename, rename-none, same_after, fewer_after, more_after, here}
pub use Rattle.completion_core.proofs.TotalLemmas.{upd_here, upd_else, by_bool, one_held, one_kept, self_held}
pub use Rattle.completion_core.proofs.TotalLemmas.{self_kept, same_is, held_left}
use Rattle.pending_count.specs.Views.{less, minus}

-- 1 at i, 0 at others
abbrev pub one_at : ℕ → ℕ → ℕ
one_at i j = only_at i 1 j

module _ {A : Type 0} (f : A → ℕ) where
  pub total-set : (l : List A) (i : ℕ) (v w : A) → get_elem? l i ≡ some v → total f (set l i w) + f v ≡ total f l + f w
  total-set [] i v w e = absurd (some-ne-none v (sym e))
  total-set (x ∷ xs) zero v w e = let is : f x ≡ f v = ap f (some-injective x v e) in omega arith
  total-set (x ∷ xs) (suc i) v w e = let r = total-set xs i v w e in omega arith

  pub term_le : (l : List A) (i : ℕ) (v : A) → get_elem? l i ≡ some v → f v ≤ total f l
  term_le [] i v e = absurd (some-ne-none v (sym e))
  term_le (x ∷ xs) zero v e = let is : f x ≡ f v = ap f (some-injective x v e) in omega arith
  term_le (x ∷ xs) (suc i) v e = let r = term_le xs i v e in omega arith

-- a seat by its number
pub seat_is : {A : Type 0} (l : List A) (i : ℕ) (v d : A) → get_elem? l i ≡ some v → (i < length l) × (get_or l i d ≡ v)
seat_is [] i v d e = absurd (some-ne-none v (sym e))
seat_is (x ∷ xs) zero v d e = (omega arith, some-injective x v e)
seat_is (x ∷ xs) (suc i) v d e = let r = seat_is xs i v d e in let h = r.0 in (omega arith, r.1)

-- a bag with one less
pub total-less : (f : ℕ → ℕ) (i : ℕ) (xs : List ℕ) → 0 < count i xs → total f (less i xs) + f i ≡ total f xs
total-less f i [] h = absurd (omega arith)
total-less f i (j ∷ js) h = dite (ℕ_discrete j i)
    (λ e. let is : f j ≡ f i = ap f e in
    subst (λ b. total f (cond b js (j ∷ less i js)) + f i ≡ f j + total f js) (sym (eq-eqb j i e)) (omega arith))
    (λ n. let zero_here : one_at i j ≡ 0 = ap (λ b. cond b 1 0) (ne_eqb j i n) in
    let r = total-less f i js (omega arith) in
    subst (λ b. total f (cond b js (j ∷ less i js)) + f i ≡ f j + total f js) (sym (ne_eqb j i n)) (omega arith))

pub total-minus : (f : ℕ → ℕ) (is xs : List ℕ) → ((i : ℕ) → count i is ≤ count i xs)
    → total f (minus is xs) + total f is ≡ total f xs
total-minus f [] xs h = omega arith
total-minus f (i ∷ is) xs h =
    let one : one_at i i ≡ 1 = ap (λ b. cond b 1 0) (here i) in
    let there : 0 < count i xs = (let a = h i in omega arith) in
    let r = total-minus f is (less i xs)
    (λ j. let a = h j in let b = total-less (one_at j) i xs there in omega arith) in
    let s = total-less f i xs there in
    omega arith

pub bool_case : (b : Bool) (F : Type 0) → (b ≡ true → F) → (b ≡ false → F) → F
bool_case true F p q = p refl
bool_case false F p q = q refl

pub total-kept : {A : Type 0} (f : A → ℕ) (l : List A) (i : ℕ) (v w : A) → get_elem? l i ≡ some v → f w ≡ f v
    → total f (set l i w) ≡ total f l
total-kept f l i v w at e = let r = total-set f l i v w at in omega arith

pub at_here : (i : ℕ) → one_at i i ≡ 1
at_here i = ap (λ b. cond b 1 0) (here i)

pub at_else : (i j : ℕ) → j ≢ i → one_at i j ≡ 0
at_else i j n = ap (λ b. cond b 1 0) (ne_eqb j i n)

pub at_sym : (i j : ℕ) → one_at i j ≡ one_at j i
at_sym i j = dite (ℕ_discrete i j) (λ e. at_is i j (sym e) ∙ sym (at_is j i e))
    (λ n. at_else i j (λ e. n (sym e)) ∙ sym (at_else j i n))
  where
    at_is : (i j : ℕ) → j ≡ i → one_at i j ≡ 1
    at_is i j e = ap (λ b. cond b 1 0) (eq-eqb j i e)

pub some_is : {A : Type 0} (a b : A) → Some a ≡ Some b → a ≡ b
some_is a b e = grind arith
