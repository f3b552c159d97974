-- Products that need no more than 64 bits, and gaps of numbers from a bound.
use Rattle.std.proofs.Common.{◌≡◌, ◌∙◌, ◌<◌, ◌≤◌, ◌+◌, ◌-◌, ◌%◌, ◌^◌, ℕ, ℤ, pos, negsuc, ◌*ℤ◌, ◌-ℤ◌, ◌≤ℤ◌, FitsSigned}
use Rattle.std.proofs.Common.{ap, arith, rules, sym, w64}
use Rattle.std.specs.Prelude.{unsigned_abs}
use Rattle.std.specs.Int.{cast_unsigned, int_rem_euclid, int_wrap}
use Rattle.std.proofs.lemmas.Int.{fits_signed_mul, ints, of_z-to_z, to_z-of_z, wrapping_sub_onto}
use Rattle.batch_eval.specs.Lanes.{gap}

small : (x : ℤ) → negsuc 2147483647 ≤ℤ x → x ≤ℤ pos 2147483647 → unsigned_abs x ≤ 2 ^ 31
small (pos n) least most = omega (arith, ints, most)
small (negsuc n) least most = omega (arith, ints, least)

pub product_fits : (x y : ℤ) → negsuc 2147483647 ≤ℤ x → x ≤ℤ pos 2147483647 → negsuc 2147483647 ≤ℤ y
    → y ≤ℤ pos 2147483647 → FitsSigned w64 (x *ℤ y)
product_fits x y least most first last =
    fits_signed_mul w64 x y (2 ^ 31) (2 ^ 31) (small x least most) (small y first last) (omega arith)

-- how far a number lies above the least one: the difference of their bits modulo 2^64
abbrev bits_between : ℤ → ℤ → ℕ
bits_between least x = (cast_unsigned w64 x + (2 ^ 64 - cast_unsigned w64 least)) % 2 ^ 64

within_bits : (least greatest x : ℤ) → FitsSigned w64 least → FitsSigned w64 greatest → FitsSigned w64 x
    → least ≤ℤ greatest → bits_between least x ≤ bits_between least greatest → (least ≤ℤ x) × (x ≤ℤ greatest)
within_bits (pos l) (pos g) (pos x) p q r some short = (
  omega (arith, ints, p.sfits, q.sfits, r.sfits, some, short),
  omega (arith, ints, p.sfits, q.sfits, r.sfits, some, short),
)
within_bits (pos l) (pos g) (negsuc x) p q r some short = (
  omega (arith, ints, p.sfits, q.sfits, r.sfits, some, short),
  omega (arith, ints, p.sfits, q.sfits, r.sfits, some, short),
)
within_bits (pos l) (negsuc g) x p q r some short = absurd (omega (arith, ints, some))
within_bits (negsuc l) (pos g) (pos x) p q r some short = (
  omega (arith, ints, p.sfits, q.sfits, r.sfits, some, short),
  omega (arith, ints, p.sfits, q.sfits, r.sfits, some, short),
)
within_bits (negsuc l) (pos g) (negsuc x) p q r some short = (
  omega (arith, ints, p.sfits, q.sfits, r.sfits, some, short),
  omega (arith, ints, p.sfits, q.sfits, r.sfits, some, short),
)
within_bits (negsuc l) (negsuc g) (pos x) p q r some short = (
  omega (arith, ints, p.sfits, q.sfits, r.sfits, some, short),
  omega (arith, ints, p.sfits, q.sfits, r.sfits, some, short),
)
within_bits (negsuc l) (negsuc g) (negsuc x) p q r some short = (
  omega (arith, ints, p.sfits, q.sfits, r.sfits, some, short),
  omega (arith, ints, p.sfits, q.sfits, r.sfits, some, short),
)

rest_below : (z : ℤ) → unsigned_abs (int_rem_euclid z (pos (2 ^ 64))) < 2 ^ 64
rest_below (pos n) = omega arith
rest_below (negsuc n) = omega arith

-- the subtraction of bits gives the difference modulo 2^64
gap_is : (least x : ℤ) → FitsSigned w64 least → FitsSigned w64 x → bits_between least x ≡ gap least x
unfolding int_wrap
gap_is least x p q =
    let m = cast_unsigned w64 x in
    let of_bits : m < 2 ^ 64 = search rules in
    let wrapped = wrapping_sub_onto w64 m least of_bits p in
    sym (of_z-to_z w64 (bits_between least x) (omega arith))
    ∙ ap (cast_unsigned w64) (wrapped ∙ ap (λ z. int_wrap w64 (z -ℤ least)) (to_z-of_z w64 x q))
    ∙ of_z-to_z w64 (gap least x) (rest_below (x -ℤ least))

-- a number whose gap is no more than the greatest number's is within the bounds
pub within_gap : (least greatest x : ℤ) → FitsSigned w64 least → FitsSigned w64 greatest → FitsSigned w64 x
    → least ≤ℤ greatest → gap least x ≤ gap least greatest → (least ≤ℤ x) × (x ≤ℤ greatest)
within_gap least greatest x p q r some short =
    within_bits least greatest x p q r some (omega (arith, gap_is least x p r, gap_is least greatest p q, short))
