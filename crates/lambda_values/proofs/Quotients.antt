-- Quotients as the machine divides, and the quotient rounded down.
use Rattle.std.proofs.Common.{◌≡◌, ◌⊎◌, inl, inr, ℕ, suc, zero, ◌+◌, ◌-◌, ◌*◌, ◌/◌, ◌%◌, ◌<◌, ◌^◌, ap, sym, refl, arith}
use Rattle.std.proofs.Common.{ℤ, pos, negsuc, neg_ℤ, ◌-ℤ◌, ◌*ℤ◌, FitsSigned, to_z, of_z, w64, true, false, ◌∙◌, Ok}
use Rattle.std.specs.Prelude.{unsigned_abs, int_div, int_rem, Bool, if◌then◌else◌}
use Rattle.std.specs.Int.{int_wrap, int_wrapping_div, cast_signed, cast_unsigned}
use Rattle.std.specs.Ordering.{int_eq}
use Rattle.std.proofs.lemmas.Int.{int_wrap-add_left, int_wrap-mul_left, int_wrap-sub_right, to_z-of_z, wrapping_mul_is}
use Rattle.std.proofs.lemmas.Int.{wrapping_sub-bits}
use Rattle.std.proofs.lemmas.Nat.{div-add-mod', div-mul-add, mod-mul-add, mod_below}
use mathlib.Core.Logic.{dite}
use native.Mathlib.Decide.{ℕ_discrete}
use Rattle.std.proofs.lemmas.Grind.{common_steps}
use Rattle.std.proofs.Math.Nat.{mod-eq_of_lt, div-le_self, zero-div}
use Rattle.lambda_values.specs.Operators.{divided, is_opposite, quotient, rounded_down}
use Rattle.lambda_values.specs.Wrap.{wrap}

pub wrap_small : (z : ℤ) → unsigned_abs z < 2 ^ 64 → int_wrap w64 z ≡ cast_signed w64 (cast_unsigned w64 z)
unfolding int_wrap
wrap_small (pos n) small = ap (to_z w64) (mod-eq_of_lt small)
wrap_small (negsuc n) small =
    let below : n < 2 ^ 64 = omega arith in
    let same : n % 2 ^ 64 ≡ n = mod-eq_of_lt below in
    ap (to_z w64) (omega arith)

abs_neg : (q : ℕ) → unsigned_abs (neg_ℤ (pos q)) ≡ q
abs_neg zero = refl
abs_neg (suc q) = refl

quotient_small : (x y : ℤ) → FitsSigned w64 x → unsigned_abs (int_div x y) < 2 ^ 64
quotient_small (pos a) (pos b) f = omega (arith, div-le_self a b, f.sfits)
quotient_small (pos a) (negsuc b) f = omega (arith, div-le_self a (suc b), f.sfits, abs_neg (a / suc b))
quotient_small (negsuc a) (pos b) f = omega (arith, div-le_self (suc a) b, f.sfits, abs_neg (suc a / b))
quotient_small (negsuc a) (negsuc b) f = omega (arith, div-le_self (suc a) (suc b), f.sfits)

pub divisor_stays : (y : ℤ) → (of_z w64 y ≡ 0 → ⊥) → int_eq y (pos 0) ≡ false
divisor_stays (pos zero) other = absurd (other refl)
divisor_stays (pos (suc n)) other = grind (arith, common_steps)
divisor_stays (negsuc n) other = grind (arith, common_steps)

-- what `wrapping_div` gives is the quotient, wrapped
pub quotient_wraps : (x y r : ℤ) → FitsSigned w64 x → FitsSigned w64 y
    → r ≡ int_wrapping_div w64 (to_z w64 (of_z w64 x)) (to_z w64 (of_z w64 y)) → r ≡ wrap (int_div x y)
quotient_wraps x y r f g is = is ∙ rw (to_z-of_z w64 x f, to_z-of_z w64 y g)
    (sym (wrap_small (int_div x y) (quotient_small x y f)))

pub quotient_is : (x y r : ℤ) → FitsSigned w64 x → FitsSigned w64 y → FitsSigned w64 r → (of_z w64 y ≡ 0 → ⊥)
    → r ≡ int_wrapping_div w64 (to_z w64 (of_z w64 x)) (to_z w64 (of_z w64 y))
    → Ok (to_z w64 (of_z w64 r)) ≡ quotient x y
quotient_is x y r f g s other is = rw (divisor_stays y other) (ap Ok (to_z-of_z w64 r s ∙ quotient_wraps x y r f g is))

-- one more over n
suc_divided : (a n : ℕ) → 0 < n → ((suc a / n ≡ a / n) × (suc a % n ≡ suc (a % n)))
    ⊎ ((suc a / n ≡ suc (a / n)) × (suc a % n ≡ 0))
suc_divided a n above =
    let q = a / n in
    let r = a % n in
    let whole : q * n + r ≡ a = div-add-mod' a n in
    let low : r < n = mod_below a n above in
    dite (ℕ_discrete (suc r) n)
    (λ same. let more : suc a ≡ suc q * n + 0 = omega arith in
    inr (
      ap (λ k. k / n) more ∙ div-mul-add (suc q) n 0 above,
      ap (λ k. k % n) more ∙ mod-mul-add (suc q) n 0 above,
    ))
    (λ other. let lower : suc r < n = omega arith in let more : suc a ≡ q * n + suc r = omega arith in
    inl (
      ap (λ k. k / n) more ∙ div-mul-add q n (suc r) lower,
      ap (λ k. k % n) more ∙ mod-mul-add q n (suc r) lower,
    ))

-- the quotient rounded toward zero, or one less
abbrev pub corrected : ℤ → ℤ → ℤ → ℤ
corrected q r y = if is_opposite r y then q -ℤ pos 1 else q

same_signs : (k b : ℕ) → is_opposite (pos k) (pos b) ≡ false
same_signs zero b = refl
same_signs (suc k) b = refl

same_signs_below : (k b : ℕ) → is_opposite (neg_ℤ (pos k)) (negsuc b) ≡ false
same_signs_below zero b = refl
same_signs_below (suc k) b = refl

one_less : (q : ℕ) → negsuc q ≡ neg_ℤ (pos q) -ℤ pos 1
one_less zero = refl
one_less (suc q) = ap negsuc (omega arith)

below_over : (a b : ℕ) (p m : ℕ) → ((p ≡ a / suc b) × (m ≡ suc (a % suc b))) ⊎ ((p ≡ suc (a / suc b)) × (m ≡ 0))
    → negsuc (a / suc b) ≡ corrected (neg_ℤ (pos p)) (neg_ℤ (pos m)) (pos (suc b))
below_over a b p m (inl x) = rw (x.0, x.1) (one_less (a / suc b))
below_over a b p m (inr x) = rw (x.0, x.1) refl

over_below : (a b : ℕ) (p m : ℕ) → ((p ≡ a / suc b) × (m ≡ suc (a % suc b))) ⊎ ((p ≡ suc (a / suc b)) × (m ≡ 0))
    → negsuc (a / suc b) ≡ corrected (neg_ℤ (pos p)) (pos m) (negsuc b)
over_below a b p m (inl x) = rw (x.0, x.1) (one_less (a / suc b))
over_below a b p m (inr x) = rw (x.0, x.1) refl

zero_below : (b p m : ℕ) → p ≡ 0 → m ≡ 0 → pos 0 ≡ corrected (neg_ℤ (pos p)) (pos m) (negsuc b)
zero_below b p m e f = rw (e, f) refl

pub rounded : (x y : ℤ) → (of_z w64 y ≡ 0 → ⊥) → rounded_down x y ≡ corrected (int_div x y) (int_rem x y) y
rounded (pos a) (pos zero) other = absurd (other refl)
rounded (negsuc a) (pos zero) other = absurd (other refl)
rounded (pos a) (pos (suc b)) other = rw (same_signs (a % suc b) (suc b)) refl
rounded (negsuc a) (pos (suc b)) other =
    below_over a b (suc a / suc b) (suc a % suc b) (suc_divided a (suc b) (omega arith))
rounded (pos zero) (negsuc b) other = zero_below b (zero / suc b) (zero % suc b) (zero-div (suc b))
    (mod-eq_of_lt (omega arith))
rounded (pos (suc a)) (negsuc b) other =
    over_below a b (suc a / suc b) (suc a % suc b) (suc_divided a (suc b) (omega arith))
rounded (negsuc a) (negsuc b) other = rw (same_signs_below (suc a % suc b) b) refl

pub rounds_up : (q x y : ℤ) (t : Bool) → (of_z w64 y ≡ 0 → ⊥) → t ≡ is_opposite (int_rem x y) y → t ≡ true
    → q ≡ wrap (int_div x y) → wrap (q -ℤ pos 1) ≡ wrap (rounded_down x y)
rounds_up q x y t other test holds is =
    let down : rounded_down x y ≡ int_div x y -ℤ pos 1 =
    rounded x y other ∙ ap (λ b. if b then int_div x y -ℤ pos 1 else int_div x y) (sym test ∙ holds) in
    ap (λ v. wrap (v -ℤ pos 1)) is ∙ int_wrap-add_left w64 (int_div x y) (negsuc 0) ∙ ap wrap (sym down)

pub rounds_right : (q x y : ℤ) (t : Bool) → (of_z w64 y ≡ 0 → ⊥) → t ≡ is_opposite (int_rem x y) y → t ≡ false
    → q ≡ wrap (int_div x y) → q ≡ wrap (rounded_down x y)
rounds_right q x y t other test negative is =
    is ∙ ap wrap (sym (rounded x y other
    ∙ ap (λ b. if b then int_div x y -ℤ pos 1 else int_div x y) (sym test ∙ negative)))

pub divides : (y z r : ℤ) → (of_z w64 y ≡ 0 → ⊥) → FitsSigned w64 r → r ≡ z → Ok (to_z w64 (of_z w64 r)) ≡ divided y z
divides y z r other fits is = rw (divisor_stays y other) (ap Ok (to_z-of_z w64 r fits ∙ is))

pub floor_rest : (x y d : ℤ) → of_z w64 x < 2 ^ 64 → FitsSigned w64 x → FitsSigned w64 y → FitsSigned w64 d
    → d ≡ wrap (rounded_down x y) → to_z w64 ((of_z w64 x + (2 ^ 64 - (of_z w64 d * of_z w64 y) % 2 ^ 64)) % 2 ^ 64)
    ≡ wrap (x -ℤ rounded_down x y *ℤ y)
floor_rest x y d small f g h is =
    let down = rounded_down x y in
    let product : to_z w64 ((of_z w64 d * of_z w64 y) % 2 ^ 64) ≡ wrap (down *ℤ y) =
    wrapping_mul_is w64 d y h g ∙ ap (λ v. wrap (v *ℤ y)) is ∙ int_wrap-mul_left w64 down y in
    let low : (of_z w64 d * of_z w64 y) % 2 ^ 64 < 2 ^ 64 =
    mod_below (of_z w64 d * of_z w64 y) (2 ^ 64) (omega arith) in
    wrapping_sub-bits w64 (of_z w64 x) ((of_z w64 d * of_z w64 y) % 2 ^ 64) small low
    ∙ ap (λ v. wrap (v -ℤ to_z w64 ((of_z w64 d * of_z w64 y) % 2 ^ 64))) (to_z-of_z w64 x f)
    ∙ ap (λ v. wrap (x -ℤ v)) product ∙ int_wrap-sub_right w64 x (down *ℤ y)

pub absolute_wraps : (x : ℤ) → FitsSigned w64 x → to_z w64 (unsigned_abs x) ≡ wrap (pos (unsigned_abs x))
absolute_wraps (pos a) f = sym (wrap_small (pos a) (omega (arith, f.sfits)))
absolute_wraps (negsuc a) f = sym (wrap_small (pos (suc a)) (omega (arith, f.sfits)))
