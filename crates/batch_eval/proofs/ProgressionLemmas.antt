-- Numbers that go up by a step, and what operators by numbers make of them.
use Rattle.std.proofs.Common.{◌≡◌, ℕ, zero, suc, ◌+◌, ℤ, pos, negsuc, ◌+ℤ◌, ◌-ℤ◌, neg_ℤ, FitsSigned, w64, refl, sym, ap}
use Rattle.std.proofs.Common.{ap₂, ◌∙◌, arith}
use Rattle.std.specs.Prelude.{◌*ℤ◌}
use Rattle.std.proofs.lemmas.Int.{int_wrap_fits, int_wrap-add_left, int_wrap-add_right, int_wrap-mul_left, ints}
use lib.IntN.{pred_ℤ, +ℤ_idr, zero-*ℤ, suc_ℤ-*ℤ, pred_ℤ-*ℤ, *ℤ_comm}
use Rattle.lambda_values.specs.Wrap.{wrap}
use Rattle.batch_eval.specs.Batches.{going_up}

-- the number after one of them
pub next_up : (a b : ℤ) (k : ℕ) → wrap (going_up a b k +ℤ b) ≡ going_up a b (k + 1)
next_up a b k = let next : suc k ≡ k + 1 = omega arith in ap (going_up a b) next

-- by ones
pub counts_up : (a : ℤ) (k : ℕ) → FitsSigned w64 a → going_up a (pos 1) k ≡ wrap (a +ℤ pos k)
counts_up a zero fits = sym (int_wrap_fits w64 a fits) ∙ ap wrap (sym (+ℤ_idr a))
counts_up a (suc k) fits =
    let one_more : (a +ℤ pos k) +ℤ pos 1 ≡ a +ℤ pos (suc k) = omega (arith, ints) in
    ap (λ (z : ℤ). wrap (z +ℤ pos 1)) (counts_up a k fits) ∙ int_wrap-add_left w64 (a +ℤ pos k) (pos 1)
    ∙ ap wrap one_more

-- a number added to each
pub all_more : (a b y : ℤ) (k : ℕ) → wrap (going_up a b k +ℤ y) ≡ going_up (wrap (a +ℤ y)) b k
all_more a b y zero = refl
all_more a b y (suc k) =
    let g = going_up a b k in
    let turned : (g +ℤ b) +ℤ y ≡ (g +ℤ y) +ℤ b = omega (arith, ints) in
    int_wrap-add_left w64 (g +ℤ b) y ∙ ap wrap turned ∙ sym (int_wrap-add_left w64 (g +ℤ y) b)
    ∙ ap (λ (z : ℤ). wrap (z +ℤ b)) (all_more a b y k)

-- a number taken from each
pub all_less : (a b y : ℤ) (k : ℕ) → wrap (going_up a b k -ℤ y) ≡ going_up (wrap (a -ℤ y)) b k
all_less a b y k = all_more a b (neg_ℤ y) k

shuffled : (p q a b : ℤ) → (p +ℤ q) +ℤ (a +ℤ b) ≡ (p +ℤ a) +ℤ (q +ℤ b)
shuffled p q a b = omega (arith, ints)

shuffled_down : (p q a b : ℤ) → (p +ℤ q) -ℤ (a +ℤ b) ≡ (p -ℤ a) +ℤ (q -ℤ b)
shuffled_down p q a b = omega (arith, ints)

-- a product of a sum
natural_times : (n : ℕ) (a b : ℤ) → pos n *ℤ (a +ℤ b) ≡ pos n *ℤ a +ℤ pos n *ℤ b
natural_times zero a b = zero-*ℤ (a +ℤ b) ∙ ap₂ (λ (x y : ℤ). x +ℤ y) (sym (zero-*ℤ a)) (sym (zero-*ℤ b))
natural_times (suc n) a b = suc_ℤ-*ℤ (pos n) (a +ℤ b) ∙ ap (λ (z : ℤ). z +ℤ (a +ℤ b)) (natural_times n a b)
    ∙ shuffled (pos n *ℤ a) (pos n *ℤ b) a b
    ∙ ap₂ (λ (x y : ℤ). x +ℤ y) (sym (suc_ℤ-*ℤ (pos n) a)) (sym (suc_ℤ-*ℤ (pos n) b))

times_sum : (y a b : ℤ) → y *ℤ (a +ℤ b) ≡ y *ℤ a +ℤ y *ℤ b
times_sum (pos n) a b = natural_times n a b
times_sum (negsuc n) a b = below n
  where
    one_less : (z : ℤ) → z *ℤ (a +ℤ b) ≡ z *ℤ a +ℤ z *ℤ b → pred_ℤ z *ℤ (a +ℤ b) ≡ pred_ℤ z *ℤ a +ℤ pred_ℤ z *ℤ b
    one_less z is = pred_ℤ-*ℤ z (a +ℤ b) ∙ ap (λ (x : ℤ). x -ℤ (a +ℤ b)) is
        ∙ shuffled_down (z *ℤ a) (z *ℤ b) a b
        ∙ ap₂ (λ (x y : ℤ). x +ℤ y) (sym (pred_ℤ-*ℤ z a)) (sym (pred_ℤ-*ℤ z b))

    below : (n : ℕ) → negsuc n *ℤ (a +ℤ b) ≡ negsuc n *ℤ a +ℤ negsuc n *ℤ b
    below zero = one_less (pos zero) (natural_times zero a b)
    below (suc n) = one_less (negsuc n) (below n)

sum_times : (a b y : ℤ) → (a +ℤ b) *ℤ y ≡ a *ℤ y +ℤ b *ℤ y
sum_times a b y = *ℤ_comm (a +ℤ b) y ∙ times_sum y a b ∙ ap₂ (λ (p q : ℤ). p +ℤ q) (*ℤ_comm y a) (*ℤ_comm y b)

-- each times a number
pub all_times : (a b y : ℤ) (k : ℕ) → wrap (going_up a b k *ℤ y) ≡ going_up (wrap (a *ℤ y)) (wrap (b *ℤ y)) k
all_times a b y zero = refl
all_times a b y (suc k) =
    let g = going_up a b k in
    int_wrap-mul_left w64 (g +ℤ b) y ∙ ap wrap (sum_times g b y)
    ∙ sym (int_wrap-add_left w64 (g *ℤ y) (b *ℤ y)) ∙ sym (int_wrap-add_right w64 (wrap (g *ℤ y)) (b *ℤ y))
    ∙ ap (λ (z : ℤ). wrap (z +ℤ wrap (b *ℤ y))) (all_times a b y k)
