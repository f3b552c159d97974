-- Division by multiplication: the factor is a power of two over the divisor, rounded up.
use Rattle.std.proofs.Common.{◌≡◌, ℕ, zero, suc, ◌+◌, ◌-◌, ◌*◌, ◌/◌, ◌%◌, ◌<◌, ◌≤◌, ◌^◌, ap, sym, arith, refl, ◌∙◌, ℤ}
use Rattle.std.proofs.Common.{pos, negsuc, FitsSigned, of_z, to_z, w64}
use Rattle.std.specs.Int.{cast_unsigned}
use Rattle.std.specs.Prelude.{false, int_rem, unsigned_abs, ◌≤ℤ◌}
use Rattle.std.specs.Ordering.{int_eq}
use Rattle.std.proofs.lemmas.Grind.{common_steps}
use Rattle.std.proofs.Math.Nat.{add-mul-mod_self_right, div-div-eq-div-mul, div-lt_iff_lt-mul, div-mul-le_self}
use Rattle.std.proofs.Math.Nat.{dvd-mul_right, le-div_iff_mul-le, lt-div-mul-add, lt_of_mul-lt-mul_right, mod-eq_of_lt}
use Rattle.std.proofs.Math.Nat.{mod-le, mod-lt, mod-mod_of_dvd, mul-add-div_right, mul-le-mul, mul-le-mul_left}
use Rattle.std.proofs.Math.Nat.{mul-le-mul_right}
use Rattle.std.proofs.lemmas.Int.{int_wrap_fits, ints, to_z-of_z}
use Rattle.std.proofs.lemmas.Bool.{cases_lt}
use Rattle.std.proofs.lemmas.Nat.{div-add-mod', pow_pos}
use Rattle.std.proofs.Math.Pow.{pow_mono}
use mathlib.Core.Logic.{⊎_elim}
use Rattle.lambda_values.specs.Wrap.{wrap}
use Rattle.batch_eval.specs.Powers.{with_sign_of}
use Rattle.batch_eval.specs.Reciprocals.{Divides, IsWithin, natural}

-- a power of two over d, rounded up
abbrev pub factor_of : ℕ → ℕ → ℕ
factor_of d a = (a - 1) / d + 1

-- the factor is not below the quotient
factor_reaches : (d a : ℕ) → 0 < d → 0 < a → a ≤ factor_of d a * d
factor_reaches d a above some =
    let more : a - 1 < (a - 1) / d * d + d = lt-div-mul-add {a = a - 1} {b = d} above in
    omega (arith, more, some)

-- and above it by less than 1
factor_within : (d a : ℕ) → 0 < a → factor_of d a * d < a + d
factor_within d a some =
    let less : (a - 1) / d * d ≤ a - 1 = div-mul-le_self (a - 1) d in
    omega (arith, less, some)

-- a product with m over a is a quotient, if m is a over the divisor with an error that is small beside n
product_over : (n e a m : ℕ) → 0 < a → a ≤ m * suc e → m * suc e ≤ a + e → n * e < a → n * m / a ≡ n / suc e
product_over n e a m above reach within small =
    let q = n / suc e in
    let low : q * suc e ≤ n = div-mul-le_self n (suc e) in
    let high : n < q * suc e + suc e = lt-div-mul-add {a = n} {b = suc e} (omega arith) in
    let next : n + 1 ≤ q * suc e + suc e = omega (arith, high) in
    let from_below : q * a ≤ n * m = omega (arith, mul-le-mul_left q reach, mul-le-mul_right m low) in
    let from_above : n * m < (q + 1) * a =
    lt_of_mul-lt-mul_right (suc e) {m = n * m} {n = (q + 1) * a}
    (omega (arith, mul-le-mul_left n within, small, mul-le-mul_right a next)) in
    let least : q ≤ n * m / a = (le-div_iff_mul-le {k = a} {x = q} {y = n * m} above).1 from_below in
    let most : n * m / a < q + 1 = (div-lt_iff_lt-mul {k = a} {x = n * m} {y = q + 1} above).1 from_above in
    omega (arith, least, most)

-- the quotient by e + 1 of magnitudes up to h, where w is twice that, for a power p of two that is at most e and more
-- than half of it
divides_by : (w h e p n : ℕ) → w ≡ 2 * h → 0 < h → p ≤ e → e < 2 * p → n ≤ h
    → n * factor_of (suc e) (w * p) / w / p ≡ n / suc e
divides_by w h e p n twice some_h low high within =
    let a = w * p in
    let some_p : 1 ≤ p = omega (arith, high) in
    let double : a ≡ 2 * (h * p) = ap (λ k. k * p) twice ∙ omega arith in
    let some : 0 < a = omega (arith, double, mul-le-mul_left h some_p, some_h) in
    let m = factor_of (suc e) a in
    let reach : a ≤ m * suc e = factor_reaches (suc e) a (omega arith) some in
    let less : m * suc e ≤ a + e = omega (arith, factor_within (suc e) a some) in
    let below : suc e ≤ 2 * p = omega (arith, high) in
    let small : n * e < a = omega (arith, mul-le-mul_right e within, mul-le-mul_left h below, double, some_h) in
    div-div-eq-div-mul (n * m) w p ∙ product_over n e a m some reach less small

factor_small : (w e p : ℕ) → p ≤ e → 0 < p → 0 < w → e < w → factor_of (suc e) (w * p) < w
factor_small w e p low some_p some_w below =
    let a = w * p in
    let some : 0 < a = omega (arith, mul-le-mul_left w some_p, some_w) in
    let least : w * p ≤ w * e = mul-le-mul_left w low in
    lt_of_mul-lt-mul_right (suc e) {m = factor_of (suc e) a} {n = w}
    (omega (arith, factor_within (suc e) a some, least, below))

pub factor_fits : (w m s : ℕ) → 0 < w → 1 < m → m ≤ w → 2 ^ s ≤ m - 1 → factor_of m (w * 2 ^ s) < w
factor_fits w zero s some above within low = absurd (omega (arith, above))
factor_fits w (suc e) s some above within low =
    factor_small w e (2 ^ s) (omega (arith, low)) (pow_pos s) some (omega (arith, within))

pub divides_bits : (bits : ℕ) (y : ℤ) (m s f : ℕ) → 2 ^ bits ≡ 2 * 2 ^ (bits - 1) → FitsSigned w64 y
    → m ≡ unsigned_abs y → 1 < m → 2 ^ s ≤ m - 1 → m - 1 < 2 * 2 ^ s → s < bits → f ≡ factor_of m (2 ^ bits * 2 ^ s)
    → Divides bits (to_z w64 (of_z w64 y)) f s
divides_bits bits y m s f twice fits size above low high bound is =
    let whole : suc (m - 1) ≡ m = omega (arith, above) in
    let same : unsigned_abs (to_z w64 (of_z w64 y)) ≡ unsigned_abs y = ap unsigned_abs (to_z-of_z w64 y fits) in
    record {
      divides = λ n within. ap (λ k. n * k / 2 ^ bits / 2 ^ s) is
          ∙ ap (λ d. n * factor_of d (2 ^ bits * 2 ^ s) / 2 ^ bits / 2 ^ s) (sym whole)
          ∙ divides_by (2 ^ bits) (2 ^ (bits - 1)) (m - 1) (2 ^ s) n twice (pow_pos (bits - 1)) low high within
          ∙ ap (λ d. n / d) (whole ∙ size ∙ sym same);
      shift = bound;
      divisor = omega (arith, above, size, same);
    }

-- the upper part of a product, over a base b, by the halves of its factors
pub halves_above : (b high low h l across : ℕ) → 0 < b → across ≡ high * l + low * l / b
    → high * h + across / b + (low * h + across % b) / b ≡ (high * b + low) * (h * b + l) / (b * b)
halves_above b high low h l across some is =
    let x = high * l + low * h in
    let whole : (high * b + low) * (h * b + l) ≡ (high * h * b + x) * b + low * l = omega arith in
    let above : ((high * h * b + x) * b + low * l) / b ≡ high * h * b + x + low * l / b =
    mul-add-div_right some (high * h * b + x) (low * l) in
    let crossed : across / b * b + across % b ≡ across = div-add-mod' across b in
    let again : high * h * b + x + low * l / b ≡ (high * h + across / b) * b + (low * h + across % b) =
    omega (arith, is, crossed) in
    sym (ap (λ n. n / (b * b)) whole ∙ sym (div-div-eq-div-mul ((high * h * b + x) * b + low * l) b b)
    ∙ ap (λ n. n / b) (above ∙ again) ∙ mul-add-div_right some (high * h + across / b) (low * h + across % b))

-- what is left of n after q times d, if that is less than d, by the rests of n and q for a base of at least d
pub short_rest_is : (b n q d : ℕ) → 0 < b → d ≤ b → q * d ≤ n → n < q * d + d
    → (n % b + (b * b - q % b * d)) % (b * b) % b ≡ n - q * d
short_rest_is b n q d some short least most =
    let taken = q % b * d in
    let x = n % b + (b * b - taken) in
    let low : q % b < b = mod-lt q some in
    let fits : taken ≤ b * b = mul-le-mul (omega (arith, low)) short in
    let n_whole : n / b * b + n % b ≡ n = div-add-mod' n b in
    let q_whole : q * d ≡ q / b * d * b + taken = ap (λ k. k * d) (sym (div-add-mod' q b)) ∙ omega arith in
    let same : x + n / b * b ≡ n - q * d + (q / b * d + b) * b = omega (arith, n_whole, q_whole, least, fits) in
    mod-mod_of_dvd b x (dvd-mul_right b b) ∙ sym (add-mul-mod_self_right x (n / b) b) ∙ ap (λ k. k % b) same
    ∙ add-mul-mod_self_right (n - q * d) (q / b * d + b) b ∙ mod-eq_of_lt (omega (arith, least, most, short))

-- a power of two below 2^31 has an exponent below 31
pub exponent_short : (s m : ℕ) → 2 ^ s ≤ m - 1 → m ≤ 2 ^ 31 → 1 < m → s < 31
exponent_short s m low short above = ⊎_elim (λ less. less)
    (λ from. absurd (omega (arith, low, short, above, pow_mono {i = 31} {j = s} from))) (cases_lt s 31)

pub magnitude_within : (y : ℤ) (m : ℕ) → FitsSigned w64 y → m ≡ unsigned_abs y → m ≤ 2 ^ 63
magnitude_within (pos a) m fits is = omega (arith, fits.sfits, is)
magnitude_within (negsuc a) m fits is = omega (arith, fits.sfits, is)

-- a divisor with a reciprocal isn't 0
pub divisor_counts : (y : ℤ) → 1 < unsigned_abs y → int_eq y (pos 0) ≡ false
divisor_counts (pos a) above = grind (arith, common_steps)
divisor_counts (negsuc a) above = refl

-- no magnitude of 64 bits is beyond 2^63
pub within_64 : (x : ℤ) → IsWithin (2 ^ 63) x
within_64 (pos a) fits = omega (arith, fits.sfits)
within_64 (negsuc a) fits = omega (arith, fits.sfits)

-- no magnitude of 32 bits is beyond 2^31
pub short_within : (x : ℤ) → negsuc 2147483647 ≤ℤ x → x ≤ℤ pos 2147483647 → IsWithin (2 ^ 31) x
short_within (pos a) least greatest fits = omega (arith, ints, greatest)
short_within (negsuc a) least greatest fits = omega (arith, ints, least)

-- and none of 31 bits
pub natural_within : (x : ℤ) → IsWithin (2 ^ 31) (natural x)
natural_within x fits = let some : 0 < 2 ^ 31 = omega arith in omega (arith, mod-lt (cast_unsigned w64 x) some)

signed_rest : (x y : ℤ) → with_sign_of x (unsigned_abs x % unsigned_abs y) ≡ int_rem x y
signed_rest (pos a) (pos b) = refl
signed_rest (pos a) (negsuc b) = refl
signed_rest (negsuc a) (pos b) = refl
signed_rest (negsuc a) (negsuc b) = refl

signed_fits : (x : ℤ) (n : ℕ) → FitsSigned w64 x → n ≤ unsigned_abs x → FitsSigned w64 (with_sign_of x n)
signed_fits (pos a) n fits within = record { sfits = omega (arith, fits.sfits, within) }
signed_fits (negsuc a) zero fits within = record { sfits = omega arith }
signed_fits (negsuc a) (suc n) fits within = record { sfits = omega (arith, fits.sfits, within) }

-- a rest of magnitudes with the sign of the dividend is the remainder
pub rest_is : (x y r : ℤ) (m : ℕ) → FitsSigned w64 x → m ≡ unsigned_abs x % unsigned_abs y → r ≡ wrap (with_sign_of x m)
    → r ≡ int_rem x y
rest_is x y r m fits size is =
    let within : m ≤ unsigned_abs x = omega (arith, size, mod-le (unsigned_abs x) (unsigned_abs y)) in
    is ∙ int_wrap_fits w64 (with_sign_of x m) (signed_fits x m fits within) ∙ ap (with_sign_of x) size ∙ signed_rest x y
