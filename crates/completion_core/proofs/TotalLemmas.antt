-- Sums over lists, and what a renaming of arrivals does to them.
use Rattle.std.proofs.Common.{◌≡◌, ◌≢◌, ℕ, zero, suc, ◌+◌, ◌≤◌, eqb, cond, Bool, true, false, List, [], ◌∷◌, ◌++◌}
use Rattle.std.proofs.Common.{length, sym, refl, ap, ◌∙◌, arith, eq-eqb, eqb-true, ne_eqb, true≢false}
use mathlib.Core.Logic.{dite}
use native.Mathlib.Decide.{ℕ_discrete}
use Rattle.completion_core.specs.Graph.{Arrival, Made, Held, Kept, same, one_same, not_made, total, copies, amount}
use Rattle.completion_core.specs.Graph.{left}
use Rattle.completion_core.specs.Legal.{rename, renamed, only_at, upd}

pub by_bool : {A : Type 0} (b : Bool) (F : A → Type 0) (x y : A) → (b ≡ true → F x) → (b ≡ false → F y) → F (cond b x y)
by_bool true F x y p q = p refl
by_bool false F x y p q = q refl

module _ {A : Type 0} (f : A → ℕ) where
  pub total-append : (xs ys : List A) → total f (xs ++ ys) ≡ total f xs + total f ys
  total-append [] ys = omega arith
  total-append (x ∷ xs) ys = let r = total-append xs ys in omega arith

  pub total-ones : (k : ℕ) (x : A) → f x ≡ 1 → total f (copies k x) ≡ k
  total-ones zero x e = refl
  total-ones (suc k) x e = let r = total-ones k x e in omega arith

  pub total-zeros : (k : ℕ) (x : A) → f x ≡ 0 → total f (copies k x) ≡ 0
  total-zeros zero x e = refl
  total-zeros (suc k) x e = let r = total-zeros k x e in omega arith

  pub total-same : (k : ℕ) (x y : A) → f x ≡ f y → total f (copies k x) ≡ total f (copies k y)
  total-same zero x y e = refl
  total-same (suc k) x y e = let r = total-same k x y e in omega arith

pub total-below : {A : Type 0} (f h : A → ℕ) → ((x : A) → f x ≤ h x) → (xs : List A) → total f xs ≤ total h xs
total-below f h le [] = omega arith
total-below f h le (x ∷ xs) = let r = total-below f h le xs in let s = le x in omega arith

pub total-add : {A : Type 0} (f h : A → ℕ) (xs : List A) → total (λ x. f x + h x) xs ≡ total f xs + total h xs
total-add f h [] = refl
total-add f h (x ∷ xs) = let r = total-add f h xs in omega arith

pub here : (i : ℕ) → eqb i i ≡ true
here i = eq-eqb i i refl

pub at_here : (node k : ℕ) → only_at node k node ≡ k
at_here node k = ap (λ b. cond b k 0) (here node)

pub at_else : (node k i : ℕ) → i ≢ node → only_at node k i ≡ 0
at_else node k i n = ap (λ b. cond b k 0) (ne_eqb i node n)

pub upd_here : {A : Type 0} (f : ℕ → A) (i : ℕ) (x : A) → upd f i x i ≡ x
upd_here f i x = ap (λ b. cond b x (f i)) (here i)

pub upd_else : {A : Type 0} (f : ℕ → A) (i : ℕ) (x : A) (j : ℕ) → j ≢ i → upd f i x j ≡ f j
upd_else f i x j n = ap (λ b. cond b x (f j)) (ne_eqb j i n)

-- the number that is at this node
pub total-fresh : {A : Type 0} (f : A → ℕ) (node n : ℕ) (x : A) (i : ℕ)
    → total f (cond (eqb i node) (copies n x) []) ≡ total f (copies (only_at node n i) x)
total-fresh f node n x i = by_bool (eqb i node) (λ l. total f l ≡ total f (copies (cond (eqb i node) n 0) x))
    (copies n x) []
    (λ e. ap (λ b. total f (copies (cond b n 0) x)) (sym e)) (λ e. ap (λ b. total f (copies (cond b n 0) x)) (sym e))

pub length-copies : {A : Type 0} (n : ℕ) (x : A) → length (copies n x) ≡ n
length-copies zero x = refl
length-copies (suc n) x = ap suc (length-copies n x)

pub length-fresh : {A : Type 0} (node n : ℕ) (x : A) (i : ℕ)
    → length (cond (eqb i node) (copies n x) []) ≡ only_at node n i
length-fresh node n x i = by_bool (eqb i node) (λ l. length l ≡ cond (eqb i node) n 0) (copies n x) []
    (λ e. length-copies n x ∙ ap (λ b. cond b n 0) (sym e)) (λ e. ap (λ b. cond b n 0) (sym e))

-- the kinds of arrival
pub same_is : (x z : Arrival) → same x z ≡ true → x ≡ z
same_is Made Made e = refl
same_is Made (Held b) e = absurd (true≢false (sym e))
same_is Made (Kept j) e = absurd (true≢false (sym e))
same_is (Held a) Made e = absurd (true≢false (sym e))
same_is (Held a) (Held b) e = ap Held (eqb-true a b e)
same_is (Held a) (Kept j) e = absurd (true≢false (sym e))
same_is (Kept i) Made e = absurd (true≢false (sym e))
same_is (Kept i) (Held b) e = absurd (true≢false (sym e))
same_is (Kept i) (Kept j) e = ap Kept (eqb-true i j e)

pub one_held : (a b : ℕ) → a ≢ b → one_same (Held a) (Held b) ≡ 0
one_held a b n = ap (λ b. cond b 1 0) (ne_eqb a b n)

pub one_kept : (a b : ℕ) → a ≢ b → one_same (Kept a) (Kept b) ≡ 0
one_kept a b n = ap (λ b. cond b 1 0) (ne_eqb a b n)

pub self_held : (a : ℕ) → one_same (Held a) (Held a) ≡ 1
self_held a = ap (λ b. cond b 1 0) (here a)

pub self_kept : (a : ℕ) → one_same (Kept a) (Kept a) ≡ 1
self_kept a = ap (λ b. cond b 1 0) (here a)

pub total-rename : (f : Arrival → ℕ) (k : ℕ) (x y : Arrival) (xs : List Arrival) → k ≤ amount x xs
    → total f (rename k x y xs) + total f (copies k x) ≡ total f xs + total f (copies k y)
total-rename f zero x y xs h = omega arith
total-rename f (suc k) x y [] h = absurd (omega arith)
total-rename f (suc k) x y (z ∷ zs) h =
    by_bool (same x z) (λ l. total f l + (f x + total f (copies k x)) ≡ f z + total f zs + (f y + total f (copies k y)))
    (y ∷ rename k x y zs) (z ∷ rename (suc k) x y zs)
    (λ e. let is : f x ≡ f z = ap f (same_is x z e) in let one : one_same x z ≡ 1 = ap (λ b. cond b 1 0) e in
    let r = total-rename f k x y zs (omega arith) in omega arith)
    (λ e. let none_here : one_same x z ≡ 0 = ap (λ b. cond b 1 0) e in
    let r = total-rename f (suc k) x y zs (omega arith) in omega arith)

pub length-rename : (k : ℕ) (x y : Arrival) (xs : List Arrival) → length (rename k x y xs) ≡ length xs
length-rename zero x y xs = refl
length-rename (suc k) x y [] = refl
length-rename (suc k) x y (z ∷ zs) =
    by_bool (same x z) (λ l. length l ≡ suc (length zs)) (y ∷ rename k x y zs) (z ∷ rename (suc k) x y zs)
    (λ e. ap suc (length-rename k x y zs)) (λ e. ap suc (length-rename (suc k) x y zs))

pub rename-none : (k : ℕ) (x y : Arrival) → rename k x y [] ≡ []
rename-none zero x y = refl
rename-none (suc k) x y = refl

-- what a renaming does to a weight
module _ (x y : Arrival) (number : ℕ → ℕ) (arrivals : ℕ → List Arrival)
    (fits : (i : ℕ) → number i ≤ amount x (arrivals i)) (f : Arrival → ℕ) where
  pub same_after : f x ≡ f y → (i : ℕ) → total f (renamed x y number arrivals i) ≡ total f (arrivals i)
  same_after e i = let r = total-rename f (number i) x y (arrivals i) (fits i) in
      let s = total-same f (number i) x y e in omega arith

  pub fewer_after : f x ≡ 1 → f y ≡ 0 → (i : ℕ)
      → total f (renamed x y number arrivals i) + number i ≡ total f (arrivals i)
  fewer_after e h i = let r = total-rename f (number i) x y (arrivals i) (fits i) in
      let s = total-ones f (number i) x e in let t = total-zeros f (number i) y h in omega arith

  pub more_after : f x ≡ 0 → f y ≡ 1 → (i : ℕ)
      → total f (renamed x y number arrivals i) ≡ total f (arrivals i) + number i
  more_after e h i = let r = total-rename f (number i) x y (arrivals i) (fits i) in
      let s = total-zeros f (number i) x e in let t = total-ones f (number i) y h in omega arith

-- what is held is left, and what two actors hold too
held_le : (a : ℕ) (x : Arrival) → one_same (Held a) x ≤ not_made x
held_le a Made = omega arith
held_le a (Held b) = by_bool (eqb a b) (λ n. n ≤ 1) 1 0 (λ e. omega arith) (λ e. omega arith)
held_le a (Kept b) = omega arith

pub held_left : (a : ℕ) (xs : List Arrival) → amount (Held a) xs ≤ left xs
held_left a xs = total-below (one_same (Held a)) not_made (held_le a) xs

two_held_le : (a b : ℕ) → a ≢ b → (x : Arrival) → one_same (Held a) x + one_same (Held b) x ≤ not_made x
two_held_le a b n Made = omega arith
two_held_le a b n (Held c) = dite (ℕ_discrete a c)
    (λ e. let other : one_same (Held b) (Held c) ≡ 0 = one_held b c (λ h. n (e ∙ sym h)) in
    let r = held_le a (Held c) in omega arith)
    (λ u. let this : one_same (Held a) (Held c) ≡ 0 = one_held a c u in let r = held_le b (Held c) in omega arith)
two_held_le a b n (Kept c) = omega arith

pub two_held_left : (a b : ℕ) → a ≢ b → (xs : List Arrival) → amount (Held a) xs + amount (Held b) xs ≤ left xs
two_held_left a b n xs = let e = total-add (one_same (Held a)) (one_same (Held b)) xs in
    let r = total-below (λ x. one_same (Held a) x + one_same (Held b) x) not_made (two_held_le a b n) xs in omega arith

made_le : (x : Arrival) → not_made x ≤ 1
made_le Made = omega arith
made_le (Held a) = omega arith
made_le (Kept i) = omega arith

pub left_length : (xs : List Arrival) → left xs ≤ length xs
left_length [] = omega arith
left_length (x ∷ xs) = let r = left_length xs in let s = made_le x in omega arith

held_kept_le : (a k : ℕ) (x : Arrival) → one_same (Held a) x + one_same (Kept k) x ≤ not_made x
held_kept_le a k Made = omega arith
held_kept_le a k (Held b) = let e = held_le a (Held b) in omega arith
held_kept_le a k (Kept j) = by_bool (eqb k j) (λ n. 0 + n ≤ 1) 1 0 (λ e. omega arith) (λ e. omega arith)

pub held_kept_left : (a k : ℕ) (xs : List Arrival) → amount (Held a) xs + amount (Kept k) xs ≤ left xs
held_kept_left a k xs = let e = total-add (one_same (Held a)) (one_same (Kept k)) xs in
    let r = total-below (λ x. one_same (Held a) x + one_same (Kept k) x) not_made (held_kept_le a k) xs in omega arith
