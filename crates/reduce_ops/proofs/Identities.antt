-- Each identity works on both sides.
use Rattle.std.proofs.Common.{◌≡◌, ℕ, ◌+◌, ◌*◌, ◌/◌, ◌%◌, ◌^◌, ℤ, pos, negsuc, ◌+ℤ◌, Some, refl, ap, ◌∙◌, arith, subst}
use Rattle.std.proofs.Common.{FitsSigned}
use Rattle.std.proofs.Math.IntN.{*ℤ-one, *ℤ_comm}
use Rattle.std.specs.Int.{w64, int_wrap}
use Rattle.std.specs.Int.Bits.{and_mask, and_comm, or_zero_l, or_zero_r, xor_zero_l, xor_zero_r}
use Rattle.std.proofs.lemmas.Int.{ints, int_wrap_fits}
use Rattle.reduce_ops.specs.declared.op.Op.{Op}
use Rattle.reduce_ops.specs.declared.op.Op.TheVariants.{Sum, Product, Min, Max, And, Or, Xor, Affine, First, Last}
use Rattle.reduce_ops.specs.Operators.{value_of, identity_of, bits_of, signed, upper, lower, IsIdentity}
use Rattle.reduce_ops.proofs.Bits.{bits_below, signed_bits}

module _ (a : ℤ) (fits : FitsSigned w64 a) where
  sum_left : value_of Sum (pos 0) a ≡ a
  sum_left = let e : pos 0 +ℤ a ≡ a = omega (arith, ints) in ap (int_wrap w64) e ∙ int_wrap_fits w64 a fits

  sum_right : value_of Sum a (pos 0) ≡ a
  sum_right = let e : a +ℤ pos 0 ≡ a = omega (arith, ints) in ap (int_wrap w64) e ∙ int_wrap_fits w64 a fits

  product_left : value_of Product (pos 1) a ≡ a
  unfolding lib.IntN.one
  product_left = ap (int_wrap w64) (*ℤ_comm (pos 1) a ∙ *ℤ-one a) ∙ int_wrap_fits w64 a fits

  product_right : value_of Product a (pos 1) ≡ a
  unfolding lib.IntN.one
  product_right = ap (int_wrap w64) (*ℤ-one a) ∙ int_wrap_fits w64 a fits

  min_left : value_of Min (pos 9223372036854775807) a ≡ a
  min_left = grind (arith, ints)

  min_right : value_of Min a (pos 9223372036854775807) ≡ a
  min_right = grind (arith, ints)

  max_left : value_of Max (negsuc 9223372036854775807) a ≡ a
  max_left = grind (arith, ints)

  max_right : value_of Max a (negsuc 9223372036854775807) ≡ a
  max_right = grind (arith, ints)

  whole : bits_of a % 2 ^ 64 ≡ bits_of a
  whole = let h = bits_below a in omega arith

  and_right : value_of And a (negsuc 0) ≡ a
  and_right = ap signed (and_mask (bits_of a) 64 ∙ whole) ∙ signed_bits a fits

  and_left : value_of And (negsuc 0) a ≡ a
  and_left = ap signed (and_comm (bits_of (negsuc 0)) (bits_of a)) ∙ and_right

  or_left : value_of Or (pos 0) a ≡ a
  or_left = ap signed (or_zero_l (bits_of a)) ∙ signed_bits a fits

  or_right : value_of Or a (pos 0) ≡ a
  or_right = ap signed (or_zero_r (bits_of a)) ∙ signed_bits a fits

  xor_left : value_of Xor (pos 0) a ≡ a
  xor_left = ap signed (xor_zero_l (bits_of a)) ∙ signed_bits a fits

  xor_right : value_of Xor a (pos 0) ≡ a
  xor_right = ap signed (xor_zero_r (bits_of a)) ∙ signed_bits a fits

  halves : (n : ℕ) → n ≡ bits_of a → (u l : ℕ) → u ≡ n / 2 ^ 32 → l ≡ n % 2 ^ 32 → signed (u * 2 ^ 32 + l) ≡ a
  halves n e u l p q = let k : u * 2 ^ 32 + l ≡ n = omega arith in ap signed (k ∙ e) ∙ signed_bits a fits

  affine_left : value_of Affine (pos 4294967296) a ≡ a
  affine_left = let h = bits_below a in halves (bits_of a) refl ((1 * upper a) % 2 ^ 32)
      ((0 * upper a + lower a) % 2 ^ 32) (omega arith) (omega arith)

  affine_right : value_of Affine a (pos 4294967296) ≡ a
  affine_right = let h = bits_below a in
      halves (bits_of a) refl ((upper a * 1) % 2 ^ 32) ((lower a * 1 + 0) % 2 ^ 32) (omega arith) (omega arith)

pub all_identities : (op : Op) (i : ℤ) → identity_of op ≡ Some i → IsIdentity (value_of op) i
all_identities Sum i e a fits = let k : pos 0 ≡ i = cc in
    subst (λ (i : ℤ). (value_of Sum i a ≡ a) × (value_of Sum a i ≡ a)) k (sum_left a fits, sum_right a fits)
all_identities Product i e a fits = let k : pos 1 ≡ i = cc in
    subst (λ (i : ℤ). (value_of Product i a ≡ a) × (value_of Product a i ≡ a)) k
    (product_left a fits, product_right a fits)
all_identities Min i e a fits = let k : pos 9223372036854775807 ≡ i = cc in
    subst (λ (i : ℤ). (value_of Min i a ≡ a) × (value_of Min a i ≡ a)) k (min_left a fits, min_right a fits)
all_identities Max i e a fits = let k : negsuc 9223372036854775807 ≡ i = cc in
    subst (λ (i : ℤ). (value_of Max i a ≡ a) × (value_of Max a i ≡ a)) k (max_left a fits, max_right a fits)
all_identities And i e a fits = let k : negsuc 0 ≡ i = cc in
    subst (λ (i : ℤ). (value_of And i a ≡ a) × (value_of And a i ≡ a)) k (and_left a fits, and_right a fits)
all_identities Or i e a fits = let k : pos 0 ≡ i = cc in
    subst (λ (i : ℤ). (value_of Or i a ≡ a) × (value_of Or a i ≡ a)) k (or_left a fits, or_right a fits)
all_identities Xor i e a fits = let k : pos 0 ≡ i = cc in
    subst (λ (i : ℤ). (value_of Xor i a ≡ a) × (value_of Xor a i ≡ a)) k (xor_left a fits, xor_right a fits)
all_identities Affine i e a fits = let k : pos 4294967296 ≡ i = cc in
    subst (λ (i : ℤ). (value_of Affine i a ≡ a) × (value_of Affine a i ≡ a)) k (affine_left a fits, affine_right a fits)
all_identities First i e a fits = cc
all_identities Last i e a fits = cc
