-- Division, remainder and bit operators of the toolchain against schoolbook arithmetic.
use Rattle.std.proofs.Common.{◌≡◌, ◌≢◌, ℕ, suc, zero, ◌+◌, ◌*◌, ◌/◌, ◌%◌, ◌<◌, ◌^◌, ap, sym, refl, arith, ℤ, pos}
use Rattle.std.proofs.Common.{negsuc, neg_ℤ, ◌*ℤ◌, FitsSigned, w64, ◌∙◌}
use Rattle.std.specs.Prelude.{◌+ℤ◌, ◌≤ℤ◌, unsigned_abs, int_div, int_rem, bit_and, bit_or, bit_xor, max, min}
use Rattle.std.specs.Int.{bit_at, cast_signed, cast_unsigned, int_bit_and, int_bit_or, int_bit_xor}
use Rattle.std.proofs.Math.Facts.{Fits-of_z, Fits-of_lt, sfits_to_z}
use Rattle.std.proofs.Math.IntN.{neg_ℤ-+ℤ}
use Rattle.std.proofs.Math.Nat.{mod-lt, mod-le, div-add-mod'}
use Rattle.std.proofs.lemmas.Int.{of_z-to_z, ints}
use Rattle.std.proofs.lemmas.Nat.{and_le_l, or_lt, xor_lt}
use Rattle.std.proofs.lemmas.Nat.Bits.{bit_at_and, bit_at_or, bit_at_xor}

abs_neg : (q : ℕ) → unsigned_abs (neg_ℤ (pos q)) ≡ q
abs_neg zero = refl
abs_neg (suc q) = refl

neg_times : (q b : ℕ) → neg_ℤ (pos q) *ℤ pos b ≡ neg_ℤ (pos (q * b))
neg_times zero b = let none : zero * b ≡ 0 = omega arith in ap pos none ∙ sym (ap (λ n. neg_ℤ (pos n)) none)
neg_times (suc q) b = refl

neg_times_below : (q b : ℕ) → neg_ℤ (pos q) *ℤ negsuc b ≡ pos (q * suc b)
neg_times_below zero b = let none : zero * suc b ≡ 0 = omega arith in ap (λ n. neg_ℤ (pos n)) none ∙ sym (ap pos none)
neg_times_below (suc q) b = refl

times_below : (q b : ℕ) → pos q *ℤ negsuc b ≡ neg_ℤ (pos (q * suc b))
times_below q b = refl

sum_below : (m r : ℕ) → neg_ℤ (pos m) +ℤ neg_ℤ (pos r) ≡ neg_ℤ (pos (m + r))
sum_below m r = sym (neg_ℤ-+ℤ (pos m) (pos r))

pub division_whole : (x y : ℤ) → y ≢ pos 0 → int_div x y *ℤ y +ℤ int_rem x y ≡ x
division_whole (pos a) (pos b) other = ap pos (div-add-mod' a b)
division_whole (pos a) (negsuc b) other =
    ap (λ z. z +ℤ pos (a % suc b)) (neg_times_below (a / suc b) b) ∙ ap pos (div-add-mod' a (suc b))
division_whole (negsuc a) (pos b) other =
    ap (λ z. z +ℤ neg_ℤ (pos (suc a % b))) (neg_times (suc a / b) b) ∙ sum_below (suc a / b * b) (suc a % b)
    ∙ ap (λ n. neg_ℤ (pos n)) (div-add-mod' (suc a) b)
division_whole (negsuc a) (negsuc b) other =
    ap (λ z. z +ℤ neg_ℤ (pos (suc a % suc b))) (times_below (suc a / suc b) b)
    ∙ sum_below (suc a / suc b * suc b) (suc a % suc b) ∙ ap (λ n. neg_ℤ (pos n)) (div-add-mod' (suc a) (suc b))

some_divisor : (y : ℤ) → y ≢ pos 0 → 0 < unsigned_abs y
some_divisor (pos zero) other = absurd (other refl)
some_divisor (pos (suc n)) other = omega arith
some_divisor (negsuc n) other = omega arith

pub remainder_small : (x y : ℤ) → y ≢ pos 0 → unsigned_abs (int_rem x y) < unsigned_abs y
remainder_small (pos a) y other = mod-lt a (some_divisor y other)
remainder_small (negsuc a) y other = let low = mod-lt (suc a) (some_divisor y other) in
    omega (arith, low, abs_neg (suc a % unsigned_abs y))

not_below : (n : ℕ) → pos 0 ≤ℤ pos n
not_below n = omega (arith, ints)

not_above : (n : ℕ) → neg_ℤ (pos n) ≤ℤ pos 0
not_above n = omega (arith, ints)

pub remainder_above : (x y : ℤ) → pos 0 ≤ℤ x → pos 0 ≤ℤ int_rem x y
remainder_above (pos a) y h = not_below (a % unsigned_abs y)
remainder_above (negsuc a) y h = absurd (omega (arith, ints, h))

pub remainder_below : (x y : ℤ) → x ≤ℤ pos 0 → int_rem x y ≤ℤ pos 0
remainder_below (pos a) y h = omega (arith, ints, h, mod-le a (unsigned_abs y))
remainder_below (negsuc a) y h = not_above (suc a % unsigned_abs y)

bits_below : (x : ℤ) → FitsSigned w64 x → cast_unsigned w64 x < 2 ^ 64
bits_below x f = (Fits-of_z f).fits

from_bits : (n : ℕ) → n < 2 ^ 64 → FitsSigned w64 (cast_signed w64 n)
from_bits n low = sfits_to_z (Fits-of_lt low)

pub and_places : (x y : ℤ) → FitsSigned w64 x → FitsSigned w64 y → FitsSigned w64 (int_bit_and w64 x y)
    × ((i : ℕ) → bit_at (cast_unsigned w64 (int_bit_and w64 x y)) i
    ≡ min (bit_at (cast_unsigned w64 x) i) (bit_at (cast_unsigned w64 y) i))
and_places x y f g =
    let a = cast_unsigned w64 x in
    let b = cast_unsigned w64 y in
    let low : bit_and a b < 2 ^ 64 = omega (arith, and_le_l a b, bits_below x f) in
    (from_bits (bit_and a b) low, λ i. ap (λ n. bit_at n i) (of_z-to_z w64 (bit_and a b) low) ∙ bit_at_and a b i)

pub or_places : (x y : ℤ) → FitsSigned w64 x → FitsSigned w64 y → FitsSigned w64 (int_bit_or w64 x y)
    × ((i : ℕ) → bit_at (cast_unsigned w64 (int_bit_or w64 x y)) i
    ≡ max (bit_at (cast_unsigned w64 x) i) (bit_at (cast_unsigned w64 y) i))
or_places x y f g =
    let a = cast_unsigned w64 x in
    let b = cast_unsigned w64 y in
    let low : bit_or a b < 2 ^ 64 = or_lt 64 a b (bits_below x f) (bits_below y g) in
    (from_bits (bit_or a b) low, λ i. ap (λ n. bit_at n i) (of_z-to_z w64 (bit_or a b) low) ∙ bit_at_or a b i)

pub xor_places : (x y : ℤ) → FitsSigned w64 x → FitsSigned w64 y → FitsSigned w64 (int_bit_xor w64 x y)
    × ((i : ℕ) → bit_at (cast_unsigned w64 (int_bit_xor w64 x y)) i
    ≡ (bit_at (cast_unsigned w64 x) i + bit_at (cast_unsigned w64 y) i) % 2)
xor_places x y f g =
    let a = cast_unsigned w64 x in
    let b = cast_unsigned w64 y in
    let low : bit_xor a b < 2 ^ 64 = xor_lt 64 a b (bits_below x f) (bits_below y g) in
    (from_bits (bit_xor a b) low, λ i. ap (λ n. bit_at n i) (of_z-to_z w64 (bit_xor a b) low) ∙ bit_at_xor a b i)
