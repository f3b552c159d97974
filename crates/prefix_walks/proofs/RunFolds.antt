-- Folds of integers in a row.
use Rattle.std.proofs.Common.{◌≡◌, ℕ, zero, suc, ◌+◌, ◌*◌, ◌/◌, ◌<◌, ◌^◌, ℤ, pos, ◌+ℤ◌, FitsSigned, w64, false}
use Rattle.std.proofs.Common.{List, [], ◌∷◌, Some, fold, refl, sym, ap, ap₂, subst, ◌∙◌, arith, add-mul, suc-mul}
use Rattle.std.proofs.Common.{mul-suc}
use Rattle.std.proofs.Common.{◌⊎◌, ◌≢◌, ◌-◌, ◌%◌, to_z, mul_assoc, mul_right_comm}
use mathlib.Core.Logic.{⊎_elim}
use Rattle.std.proofs.lemmas.Nat.{div-add-mod'}
use Rattle.std.specs.Int.{int_wrap}
use Rattle.std.specs.Prelude.{◌*ℤ◌}
use Rattle.std.proofs.lemmas.Int.{SFits-int_wrap, int_wrap-add_left, int_wrap_fits, ints}
use lib.IntN.{+ℤ_idr, zero-*ℤ, suc_ℤ-*ℤ}
use Rattle.lambda_values.specs.Wrap.{wrap}
use Rattle.lambda_values.specs.Streams.{counted}
use Rattle.reduce_ops.specs.declared.op.Op.{Op}
use Rattle.reduce_ops.specs.declared.op.Op.TheVariants.{Sum, Min, Max, First, Last}
use Rattle.reduce_ops.specs.Operators.{value_of}
use Rattle.prefix_walks.specs.Batches.{each_one, folded_values, total_below}

-- the fold of values onto a start
abbrev folded_on : Op → ℤ → List ℤ → ℤ
folded_on op a vs = fold (λ b w. value_of op b (each_one false w)) a vs

twice : (n : ℕ) → total_below (suc n) * 2 ≡ suc n * n
twice zero = refl
twice (suc n) =
    let before = twice n in
    let parts = add-mul (total_below (suc n)) (suc n) 2 in
    let rows = suc-mul (suc n) (suc n) in
    let columns = mul-suc (suc n) n in
    omega (arith, before, parts, rows, columns)

-- the half of a product, by the half of its even factor
pub half_of_first : (n : ℕ) → 0 < n → n % 2 ≡ 0 → n / 2 * (n - 1) ≡ total_below n
half_of_first zero some even = absurd (omega (arith, some))
half_of_first (suc m) some even =
    let whole : suc m / 2 * 2 ≡ suc m = omega (arith, even, div-add-mod' (suc m) 2) in
    let turned : suc m / 2 * m * 2 ≡ suc m * m = mul_right_comm (suc m / 2) m 2 ∙ ap (λ (k : ℕ). k * m) whole in
    let one_less : suc m - 1 ≡ m = omega arith in
    let is : suc m / 2 * m ≡ total_below (suc m) = omega (arith, turned, twice m) in
    ap (λ (k : ℕ). suc m / 2 * k) one_less ∙ is

pub half_of_second : (n : ℕ) → 0 < n → n % 2 ≢ 0 → n * ((n - 1) / 2) ≡ total_below n
half_of_second zero some odd = absurd (omega (arith, some))
half_of_second (suc m) some odd =
    let whole : m / 2 * 2 ≡ m = omega (arith, odd) in
    let turned : suc m * (m / 2) * 2 ≡ suc m * m = mul_assoc (suc m) (m / 2) 2 ∙ ap (λ (k : ℕ). suc m * k) whole in
    let one_less : suc m - 1 ≡ m = omega arith in
    let is : suc m * (m / 2) ≡ total_below (suc m) = omega (arith, turned, twice m) in
    ap (λ (k : ℕ). suc m * (k / 2)) one_less ∙ is

-- the lower bits of a natural number
pub lower_bits : (n : ℕ) → to_z w64 (n % 2 ^ 64) ≡ wrap (pos n)
unfolding int_wrap
lower_bits n = refl

-- the sum of integers in a row, of any size
abbrev sum_from : ℤ → ℕ → ℤ
sum_from v zero = pos 0
sum_from v (suc n) = v +ℤ sum_from (v +ℤ pos 1) n

sums_onto : (a v : ℤ) (n : ℕ) → wrap a ≡ a → folded_on Sum a (counted v n) ≡ wrap (a +ℤ sum_from v n)
sums_onto a v zero is = sym is ∙ ap wrap (sym (+ℤ_idr a))
sums_onto a v (suc n) is =
    let rest = sum_from (v +ℤ pos 1) n in
    let turned : (a +ℤ v) +ℤ rest ≡ a +ℤ (v +ℤ rest) = omega (arith, ints) in
    sums_onto (wrap (a +ℤ v)) (v +ℤ pos 1) n (int_wrap_fits w64 (wrap (a +ℤ v)) (SFits-int_wrap w64 (a +ℤ v)))
    ∙ int_wrap-add_left w64 (a +ℤ v) rest ∙ ap wrap turned

shuffled : (p n v : ℤ) → (p +ℤ n) +ℤ (v +ℤ pos 1) ≡ (p +ℤ v) +ℤ (n +ℤ pos 1)
shuffled p n v = omega (arith, ints)

times_more : (n : ℕ) (v : ℤ) → pos n *ℤ (v +ℤ pos 1) ≡ pos n *ℤ v +ℤ pos n
times_more zero v = zero-*ℤ (v +ℤ pos 1) ∙ sym (ap (λ (z : ℤ). z +ℤ pos 0) (zero-*ℤ v))
times_more (suc n) v =
    let next : pos n +ℤ pos 1 ≡ pos (suc n) = omega (arith, ints) in
    suc_ℤ-*ℤ (pos n) (v +ℤ pos 1) ∙ ap (λ (z : ℤ). z +ℤ (v +ℤ pos 1)) (times_more n v)
    ∙ shuffled (pos n *ℤ v) (pos n) v
    ∙ ap₂ (λ (x y : ℤ). x +ℤ y) (sym (suc_ℤ-*ℤ (pos n) v)) next

-- the first one for each, and what they have beyond it
sum_is : (v : ℤ) (n : ℕ) → sum_from v n ≡ pos n *ℤ v +ℤ pos (total_below n)
sum_is v zero = sym (ap (λ (z : ℤ). z +ℤ pos 0) (zero-*ℤ v))
sum_is v (suc n) =
    let p = pos n *ℤ v in
    let rest : sum_from (v +ℤ pos 1) n ≡ (p +ℤ pos n) +ℤ pos (total_below n) =
    sum_is (v +ℤ pos 1) n ∙ ap (λ (z : ℤ). z +ℤ pos (total_below n)) (times_more n v) in
    let turned : v +ℤ ((p +ℤ pos n) +ℤ pos (total_below n)) ≡ (p +ℤ v) +ℤ pos (total_below n + n) =
    omega (arith, ints) in
    ap (λ (z : ℤ). v +ℤ z) rest ∙ turned ∙ ap (λ (z : ℤ). z +ℤ pos (total_below n + n)) (sym (suc_ℤ-*ℤ (pos n) v))

pub sum_folded : (v : ℤ) (n : ℕ) → FitsSigned w64 v → 0 < n
    → Some (wrap (pos n *ℤ v +ℤ pos (total_below n))) ≡ folded_values (value_of Sum) false (counted v n)
sum_folded v zero fits some = absurd (omega (arith, some))
sum_folded v (suc n) fits some =
    ap Some (ap wrap (sym (sum_is v (suc n))) ∙ sym (sums_onto v (v +ℤ pos 1) n (int_wrap_fits w64 v fits)))

first_on : (a : ℤ) (vs : List ℤ) → folded_on First a vs ≡ a
first_on a [] = refl
first_on a (v ∷ vs) = first_on a vs

one_further : (v : ℤ) (n : ℕ) → (v +ℤ pos 1) +ℤ pos n ≡ v +ℤ pos (suc n)
one_further v n = omega (arith, ints)

last_on : (v : ℤ) (n : ℕ) → folded_on Last v (counted (v +ℤ pos 1) n) ≡ v +ℤ pos n
last_on v zero = sym (+ℤ_idr v)
last_on v (suc n) = last_on (v +ℤ pos 1) n ∙ one_further v n

greater : (v : ℤ) → value_of Max v (v +ℤ pos 1) ≡ v +ℤ pos 1
greater v = grind (arith, ints)

greatest_on : (v : ℤ) (n : ℕ) → folded_on Max v (counted (v +ℤ pos 1) n) ≡ v +ℤ pos n
greatest_on v zero = sym (+ℤ_idr v)
greatest_on v (suc n) = ap (λ (a : ℤ). folded_on Max a (counted ((v +ℤ pos 1) +ℤ pos 1) n)) (greater v)
    ∙ greatest_on (v +ℤ pos 1) n ∙ one_further v n

lesser : (a : ℤ) (k : ℕ) → value_of Min a (a +ℤ pos k) ≡ a
lesser a k = grind (arith, ints)

least_on : (a : ℤ) (k n : ℕ) → folded_on Min a (counted (a +ℤ pos k) n) ≡ a
least_on a k zero = refl
least_on a k (suc n) =
    let next : (a +ℤ pos k) +ℤ pos 1 ≡ a +ℤ pos (suc k) = omega (arith, ints) in
    ap₂ (λ (b v : ℤ). folded_on Min b (counted v n)) (lesser a k) next ∙ least_on a (suc k) n

first_folded : (v : ℤ) (n : ℕ) → 0 < n → Some v ≡ folded_values (value_of First) false (counted v n)
first_folded v zero some = absurd (omega (arith, some))
first_folded v (suc n) some = ap Some (sym (first_on v (counted (v +ℤ pos 1) n)))

least_folded : (v : ℤ) (n : ℕ) → 0 < n → Some v ≡ folded_values (value_of Min) false (counted v n)
least_folded v zero some = absurd (omega (arith, some))
least_folded v (suc n) some = ap Some (sym (least_on v 1 n))

last_folded : (v : ℤ) (n : ℕ) → Some (v +ℤ pos n) ≡ folded_values (value_of Last) false (counted v (suc n))
last_folded v n = ap Some (sym (last_on v n))

greatest_folded : (v : ℤ) (n : ℕ) → Some (v +ℤ pos n) ≡ folded_values (value_of Max) false (counted v (suc n))
greatest_folded v n = ap Some (sym (greatest_on v n))

pub least_or_first : (op : Op) (v : ℤ) (n : ℕ) → 0 < n → (op ≡ Min) ⊎ (op ≡ First)
    → Some v ≡ folded_values (value_of op) false (counted v n)
least_or_first op v n some =
    let goes : Op → Type 0 = λ o. Some v ≡ folded_values (value_of o) false (counted v n) in
    ⊎_elim (λ is. subst goes (sym is) (least_folded v n some)) (λ is. subst goes (sym is) (first_folded v n some))

pub greatest_or_last : (op : Op) (v : ℤ) (n : ℕ) → 0 < n → (op ≡ Max) ⊎ (op ≡ Last)
    → Some (v +ℤ pos (n - 1)) ≡ folded_values (value_of op) false (counted v n)
greatest_or_last op v zero some = absurd (omega (arith, some))
greatest_or_last op v (suc m) some =
    let one_less : m ≡ suc m - 1 = omega arith in
    let goes : Op → ℕ → Type 0 = λ o k. Some (v +ℤ pos k) ≡ folded_values (value_of o) false (counted v (suc m)) in
    ⊎_elim (λ is. subst (goes op) one_less (subst (λ (o : Op). goes o m) (sym is) (greatest_folded v m)))
    (λ is. subst (goes op) one_less (subst (λ (o : Op). goes o m) (sym is) (last_folded v m)))
