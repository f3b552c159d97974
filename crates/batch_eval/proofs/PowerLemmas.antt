-- Quotients by powers of two, from magnitudes and signs.
use Rattle.std.proofs.Common.{◌≡◌, ℕ, zero, suc, ◌+◌, ◌-◌, ◌*◌, ◌/◌, ◌%◌, ◌<◌, ◌≤◌, ◌^◌, true, false, ap, sym, refl}
use Rattle.std.proofs.Common.{arith, ℤ, pos, negsuc, neg_ℤ, ◌-ℤ◌, ◌*ℤ◌, FitsSigned, to_z, of_z, w64, ◌∙◌, Ok}
use Rattle.std.specs.Prelude.{unsigned_abs, int_div, int_lt, int_rem}
use Rattle.std.specs.Int.{int_wrapping_neg, trailing_zeros}
use Rattle.std.proofs.lemmas.Grind.{common_steps}
use Rattle.std.proofs.lemmas.Int.{int_wrap-sub_right, int_wrap_fits, of_z-to_z, to_z-of_z, to_z_pos, wrapping_neg_is}
use Rattle.std.proofs.lemmas.Int.{wrapping_sub-bits}
use Rattle.std.proofs.lemmas.Nat.{mod_below, one_shl, pow_below, pow_pos}
use Rattle.std.proofs.lemmas.Nat.Bits.{bit_at-pow_other, bit_at-trailing_zeros}
use Rattle.std.proofs.Math.Pow.{pow_mono}
use Rattle.std.proofs.Math.Nat.{div-le_self}
use mathlib.Core.Logic.{dite}
use native.Mathlib.Decide.{ℕ_discrete}
use Rattle.lambda_values.proofs.Quotients.{divisor_stays, wrap_small}
use Rattle.lambda_values.specs.Operators.{divided, floor_quotient, floor_remainder, low_six_bits, quotient, remainder}
use Rattle.lambda_values.specs.Operators.{rounded_down}
use Rattle.lambda_values.specs.Wrap.{wrap}
use Rattle.batch_eval.specs.Powers.{power, with_sign_of}

power_above : (k : ℤ) → 0 < power k
power_above k = pow_pos (low_six_bits k)

power_within : (k : ℤ) → power k ≤ 2 ^ 63
power_within k = pow_mono {i = low_six_bits k} {j = 63} (omega arith)

-- a power of two is no divisor of 0
pub divided_by_power : (k z : ℤ) → divided (pos (power k)) z ≡ Ok z
divided_by_power k z = rw (divisor_stays (pos (power k)) (λ is. omega (arith, is, power_above k))) refl

sign_quotient : (x : ℤ) (n : ℕ) → with_sign_of x (unsigned_abs x / n) ≡ int_div x (pos n)
sign_quotient (pos a) n = refl
sign_quotient (negsuc a) n = refl

sign_rest : (x : ℤ) (n : ℕ) → with_sign_of x (unsigned_abs x % n) ≡ int_rem x (pos n)
sign_rest (pos a) n = refl
sign_rest (negsuc a) n = refl

neg_fits : (r : ℕ) → r ≤ 2 ^ 63 → FitsSigned w64 (neg_ℤ (pos r))
neg_fits zero within = record { sfits = omega arith }
neg_fits (suc r) within = record { sfits = omega (arith, within) }

rest_fits : (x : ℤ) (n : ℕ) → 0 < n → n ≤ 2 ^ 63 → FitsSigned w64 (int_rem x (pos n))
rest_fits (pos a) n above within = record { sfits = omega (arith, mod_below a n above, within) }
rest_fits (negsuc a) n above within = neg_fits (suc a % n) (omega (arith, mod_below (suc a) n above, within))

down_fits : (x : ℤ) (n : ℕ) → FitsSigned w64 x → FitsSigned w64 (rounded_down x (pos n))
down_fits (pos a) n f = record { sfits = omega (arith, div-le_self a n, f.sfits) }
down_fits (negsuc a) n f = record { sfits = omega (arith, div-le_self a n, f.sfits) }

pub quotient_by_power : (x k r : ℤ) (m : ℕ) → m ≡ unsigned_abs x / power k → r ≡ wrap (with_sign_of x m)
    → Ok r ≡ quotient x (pos (power k))
quotient_by_power x k r m size is = ap Ok
    (is ∙ ap (λ (n : ℕ). wrap (with_sign_of x n)) size ∙ ap wrap (sign_quotient x (power k)))
    ∙ sym (divided_by_power k (wrap (int_div x (pos (power k)))))

pub rest_by_power : (x k r : ℤ) (m : ℕ) → m ≡ unsigned_abs x % power k → r ≡ wrap (with_sign_of x m)
    → Ok r ≡ remainder x (pos (power k))
rest_by_power x k r m size is =
    let fits = rest_fits x (power k) (power_above k) (power_within k) in
    ap Ok (is ∙ ap (λ (n : ℕ). wrap (with_sign_of x n)) size ∙ ap wrap (sign_rest x (power k))
    ∙ int_wrap_fits w64 (int_rem x (pos (power k))) fits) ∙ sym (divided_by_power k (int_rem x (pos (power k))))

pub down_by_power : (x k : ℤ) → FitsSigned w64 x
    → Ok (rounded_down x (pos (power k))) ≡ floor_quotient x (pos (power k))
down_by_power x k f = ap Ok (sym (int_wrap_fits w64 (rounded_down x (pos (power k))) (down_fits x (power k) f)))
    ∙ sym (divided_by_power k (wrap (rounded_down x (pos (power k)))))

pub rest_down_by_power : (x k c : ℤ) → of_z w64 x < 2 ^ 64 → of_z w64 c < 2 ^ 64 → FitsSigned w64 x → FitsSigned w64 c
    → c ≡ wrap (rounded_down x (pos (power k)) *ℤ pos (power k))
    → Ok (to_z w64 ((of_z w64 x + (2 ^ 64 - of_z w64 c)) % 2 ^ 64)) ≡ floor_remainder x (pos (power k))
rest_down_by_power x k c small low f g is =
    let down = rounded_down x (pos (power k)) *ℤ pos (power k) in
    ap Ok (wrapping_sub-bits w64 (of_z w64 x) (of_z w64 c) small low
    ∙ ap (λ v. wrap (v -ℤ to_z w64 (of_z w64 c))) (to_z-of_z w64 x f)
    ∙ ap (λ v. wrap (x -ℤ v)) (to_z-of_z w64 c g ∙ is) ∙ int_wrap-sub_right w64 x down)
    ∙ sym (divided_by_power k (wrap (x -ℤ down)))

sign_below : (x : ℤ) (m : ℕ) → int_lt x (pos 0) ≡ true → with_sign_of x m ≡ neg_ℤ (pos m)
sign_below (pos a) m is = grind (arith, common_steps)
sign_below (negsuc a) m is = refl

sign_above : (x : ℤ) (m : ℕ) → int_lt x (pos 0) ≡ false → with_sign_of x m ≡ pos m
sign_above (pos a) m is = refl
sign_above (negsuc a) m is = cc

positive_wraps : (p : ℤ) (m : ℕ) → m < 2 ^ 64 → p ≡ to_z w64 m → p ≡ wrap (pos m)
positive_wraps p m small is = is ∙ sym (wrap_small (pos m) small)

from_zero : (v : ℤ) → neg_ℤ v ≡ pos 0 -ℤ v
from_zero (pos zero) = refl
from_zero (pos (suc a)) = grind (arith, common_steps)
from_zero (negsuc a) = ap pos (omega arith)

neg_wraps : (v : ℤ) → wrap (neg_ℤ (wrap v)) ≡ wrap (neg_ℤ v)
neg_wraps v = ap wrap (from_zero (wrap v)) ∙ int_wrap-sub_right w64 (pos 0) v ∙ ap wrap (sym (from_zero v))

-- the sign, as the machine gives it
pub signed_above : (x p : ℤ) (m : ℕ) → m < 2 ^ 64 → p ≡ to_z w64 m → int_lt x (pos 0) ≡ false
    → p ≡ wrap (with_sign_of x m)
signed_above x p m small is sign = positive_wraps p m small is ∙ ap wrap (sym (sign_above x m sign))

pub signed_below : (x p r : ℤ) (m : ℕ) → m < 2 ^ 64 → FitsSigned w64 p → p ≡ to_z w64 m → r ≡ int_wrapping_neg w64 p
    → int_lt x (pos 0) ≡ true → r ≡ wrap (with_sign_of x m)
signed_below x p r m small fits is neg sign =
    let there : wrap (neg_ℤ p) ≡ wrap (neg_ℤ (pos m)) =
    ap (λ v. wrap (neg_ℤ v)) (positive_wraps p m small is) ∙ neg_wraps (pos m) in
    neg ∙ wrapping_neg_is w64 p fits ∙ there ∙ ap wrap (sym (sign_below x m sign))

-- a power of two has its exponent's number of zeros at its end
zeros_of_power : (k : ℕ) → k < 64 → trailing_zeros w64 (2 ^ k) ≡ k
zeros_of_power k below =
    let lowest = bit_at-trailing_zeros w64 (2 ^ k) (pow_pos k) (pow_below k 64 below) in
    dite (ℕ_discrete (trailing_zeros w64 (2 ^ k)) k)
    (λ same. same)
    (λ other. omega (arith, lowest.1, bit_at-pow_other k (trailing_zeros w64 (2 ^ k)) other))

-- the bits of a power of two, as the machine holds them
pub bits_of_power : (y : ℤ) (k : ℕ) → FitsSigned w64 y → k < 63 → y ≡ pos (2 ^ k)
    → of_z w64 (to_z w64 (of_z w64 y)) ≡ 2 ^ k
bits_of_power y k f below is =
    ap (of_z w64) (to_z-of_z w64 y f ∙ is ∙ sym (to_z_pos w64 (2 ^ k) (pow_below k 63 below)))
    ∙ of_z-to_z w64 (2 ^ k) (pow_below k 64 (omega arith))

pub exponent_by_zeros : (y : ℤ) (k e : ℕ) → FitsSigned w64 y → k < 63 → y ≡ pos (2 ^ k)
    → e ≡ trailing_zeros w64 (of_z w64 (to_z w64 (of_z w64 y))) → e ≡ k
exponent_by_zeros y k e f below is zeros =
    zeros ∙ ap (trailing_zeros w64) (bits_of_power y k f below is) ∙ zeros_of_power k (omega arith)

pub power_by_zeros : (y : ℤ) (k e m : ℕ) → FitsSigned w64 y → k < 63 → y ≡ pos (2 ^ k)
    → e ≡ trailing_zeros w64 (of_z w64 (to_z w64 (of_z w64 y))) → m ≡ of_z w64 (to_z w64 (of_z w64 y))
    → 1 * 2 ^ e % 2 ^ 64 ≡ m
power_by_zeros y k e m f below is zeros bits =
    ap (λ n. 1 * 2 ^ n % 2 ^ 64) (exponent_by_zeros y k e f below is zeros) ∙ one_shl k 64 (omega arith)
    ∙ sym (bits ∙ bits_of_power y k f below is)

-- a power of two is above 0
pub powers_are_positive : (y : ℤ) (k : ℕ) → FitsSigned w64 y → y ≡ pos (2 ^ k)
    → int_lt (pos 0) (to_z w64 (of_z w64 y)) ≡ false → ⊥
powers_are_positive y k f is below =
    let p = pow_pos k in
    let known : int_lt (pos 0) (pos (2 ^ k)) ≡ false = ap (int_lt (pos 0)) (sym (to_z-of_z w64 y f ∙ is)) ∙ below in
    grind (arith, common_steps)
