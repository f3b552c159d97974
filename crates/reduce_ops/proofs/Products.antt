-- Products of integers may be grouped in any way.
use Rattle.std.proofs.Common.{◌≡◌, ℕ, zero, suc, ◌*◌, ℤ, pos, negsuc, neg_ℤ, ◌*ℤ◌, sym, ap, ◌∙◌, refl}
use Rattle.std.proofs.Math.IntN.{neg_ℤ-neg_ℤ, zero-*ℤ, *ℤ_comm}
use Rattle.std.proofs.Math.Nat.{mul_assoc}

neg_pos : (m : ℕ) (k : ℤ) → neg_ℤ (pos m) *ℤ k ≡ neg_ℤ (pos m *ℤ k)
neg_pos zero k = zero-*ℤ k ∙ sym (ap neg_ℤ (zero-*ℤ k))
neg_pos (suc m) (pos n) = refl
neg_pos (suc m) (negsuc n) = sym (neg_ℤ-neg_ℤ (pos (suc m * suc n)))

neg_left : (m k : ℤ) → neg_ℤ m *ℤ k ≡ neg_ℤ (m *ℤ k)
neg_left (pos m) k = neg_pos m k
neg_left (negsuc m) k = sym (ap neg_ℤ (neg_pos (suc m) k) ∙ neg_ℤ-neg_ℤ (pos (suc m) *ℤ k))

neg_right : (m k : ℤ) → m *ℤ neg_ℤ k ≡ neg_ℤ (m *ℤ k)
neg_right m k = *ℤ_comm m (neg_ℤ k) ∙ neg_left k m ∙ ap neg_ℤ (*ℤ_comm k m)

of_two : (a b : ℕ) (k : ℤ) → (pos a *ℤ pos b) *ℤ k ≡ pos a *ℤ (pos b *ℤ k)
of_two a b (pos c) = ap pos (mul_assoc a b c)
of_two a b (negsuc c) = neg_right (pos (a * b)) (pos (suc c)) ∙ ap (λ n. neg_ℤ (pos n)) (mul_assoc a b (suc c))
    ∙ sym (neg_right (pos a) (pos (b * suc c)))

of_one : (a : ℕ) (m k : ℤ) → (pos a *ℤ m) *ℤ k ≡ pos a *ℤ (m *ℤ k)
of_one a (pos b) k = of_two a b k
of_one a (negsuc b) k =
    neg_left (pos a *ℤ pos (suc b)) k ∙ ap neg_ℤ (of_two a (suc b) k) ∙ sym (neg_right (pos a) (pos (suc b) *ℤ k))
    ∙ sym (ap (λ x. pos a *ℤ x) (neg_pos (suc b) k))

pub product_assoc : (l m k : ℤ) → (l *ℤ m) *ℤ k ≡ l *ℤ (m *ℤ k)
product_assoc (pos a) m k = of_one a m k
product_assoc (negsuc a) m k =
    ap (λ x. x *ℤ k) (neg_pos (suc a) m) ∙ neg_left (pos (suc a) *ℤ m) k ∙ ap neg_ℤ (of_one (suc a) m k)
    ∙ sym (neg_pos (suc a) (m *ℤ k))
