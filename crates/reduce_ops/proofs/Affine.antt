-- Affine maps modulo 2^32: the value of a composition encodes the composition, and grouping is free.
use Rattle.std.proofs.Common.{◌≡◌, ℕ, zero, ◌+◌, ◌*◌, ◌/◌, ◌%◌, ◌^◌, ◌<◌, ℤ, sym, ap, ◌∙◌, arith}
use Rattle.std.proofs.Math.Nat.{mod-lt, mul_assoc, mul_comm, mod-add-mod, add-mod-mod, add-mul}
use Rattle.std.proofs.lemmas.Nat.{mul-mod_first, mul-mod_second}
use Rattle.reduce_ops.specs.Operators.{bits_of, signed, upper, lower, map_of, affine}
use Rattle.std.specs.Int.{w64, cast_signed}
use Rattle.reduce_ops.proofs.Bits.{bits_signed, signed_cast}

module _ (a b : ℕ) (p : a < 2 ^ 32) (q : b < 2 ^ 32) where
  packed : bits_of (signed (a * 2 ^ 32 + b)) ≡ a * 2 ^ 32 + b
  packed = bits_signed (a * 2 ^ 32 + b) (omega arith)

  upper_is : upper (signed (a * 2 ^ 32 + b)) ≡ a
  upper_is = ap (λ n. n / 2 ^ 32) packed ∙ omega arith

  lower_is : lower (signed (a * 2 ^ 32 + b)) ≡ b
  lower_is = ap (λ n. n % 2 ^ 32) packed ∙ omega arith

many : zero < 2 ^ 32
many = omega arith

module _ (f g : ℤ) where
  upper_affine : upper (affine f g) ≡ (upper f * upper g) % 2 ^ 32
  upper_affine = upper_is ((upper f * upper g) % 2 ^ 32) ((lower f * upper g + lower g) % 2 ^ 32)
      (mod-lt (upper f * upper g) many) (mod-lt (lower f * upper g + lower g) many)

  lower_affine : lower (affine f g) ≡ (lower f * upper g + lower g) % 2 ^ 32
  lower_affine = lower_is ((upper f * upper g) % 2 ^ 32) ((lower f * upper g + lower g) % 2 ^ 32)
      (mod-lt (upper f * upper g) many) (mod-lt (lower f * upper g + lower g) many)

module _ (m : ℕ) where
  factors : (a b c : ℕ) → ((a * b) % m * c) % m ≡ (a * ((b * c) % m)) % m
  factors a b c = mul-mod_first (a * b) c m ∙ ap (λ n. n % m) (mul_assoc a b c) ∙ sym (mul-mod_second a (b * c) m)

  spread : (a b c d e : ℕ) → (a * b + c) * d + e ≡ a * (b * d) + (c * d + e)
  spread a b c d e =
      let r : (a * b + c) * d ≡ a * b * d + c * d = add-mul (a * b) c d in
      let s : a * b * d ≡ a * (b * d) = mul_assoc a b d in
      ap (λ n. n + e) (r ∙ ap (λ n. n + c * d) s) ∙ grouped (a * (b * d)) (c * d) e
    where
      grouped : (x y z : ℕ) → (x + y) + z ≡ x + (y + z)
      grouped x y z = omega arith

  offsets : (a b c d e : ℕ) → ((a * b + c) % m * d + e) % m ≡ (a * ((b * d) % m) + (c * d + e) % m) % m
  offsets a b c d e =
      sym (mod-add-mod ((a * b + c) % m * d) m e) ∙ ap (λ n. (n + e) % m) (mul-mod_first (a * b + c) d m)
      ∙ mod-add-mod ((a * b + c) * d) m e
      ∙ ap (λ n. n % m) (spread a b c d e)
      ∙ sym (mod-add-mod (a * (b * d)) m (c * d + e))
      ∙ ap (λ n. (n + (c * d + e)) % m) (sym (mul-mod_second a (b * d) m))
      ∙ mod-add-mod (a * ((b * d) % m)) m (c * d + e)
      ∙ sym (add-mod-mod (a * ((b * d) % m)) (c * d + e) m)

pub affine_grouped : (f g h : ℤ) → affine (affine f g) h ≡ affine f (affine g h)
affine_grouped f g h = λ i. signed (both_upper i * 2 ^ 32 + both_lower i)
  where
    both_upper : (upper (affine f g) * upper h) % 2 ^ 32 ≡ (upper f * upper (affine g h)) % 2 ^ 32
    both_upper = ap (λ n. (n * upper h) % 2 ^ 32) (upper_affine f g) ∙ factors (2 ^ 32) (upper f) (upper g) (upper h)
        ∙ sym (ap (λ n. (upper f * n) % 2 ^ 32) (upper_affine g h))

    both_lower : (lower (affine f g) * upper h + lower h) % 2 ^ 32
        ≡ (lower f * upper (affine g h) + lower (affine g h)) % 2 ^ 32
    both_lower = ap (λ n. (n * upper h + lower h) % 2 ^ 32) (lower_affine f g)
        ∙ offsets (2 ^ 32) (lower f) (upper g) (lower g) (upper h) (lower h)
        ∙ (λ i. (lower f * sym (upper_affine g h) i + sym (lower_affine g h) i) % 2 ^ 32)

-- the composition maps y to what the second map makes of what the first one makes of y
pub affine_composed : (f g : ℤ) (y : ℕ) → map_of (affine f g) y ≡ map_of g (map_of f y)
affine_composed f g y =
    (λ i. (upper_affine f g i * y + lower_affine f g i) % 2 ^ 32)
    ∙ ap (λ n. (n + (lower f * upper g + lower g) % 2 ^ 32) % 2 ^ 32) (mul_comm ((upper f * upper g) % 2 ^ 32) y)
    ∙ sym (offsets (2 ^ 32) y (upper f) (lower f) (upper g) (lower g))
    ∙ ap (λ n. ((n + lower f) % 2 ^ 32 * upper g + lower g) % 2 ^ 32) (mul_comm y (upper f))
    ∙ ap (λ n. (n + lower g) % 2 ^ 32) (mul_comm ((upper f * y + lower f) % 2 ^ 32) (upper g))

-- what the program computes from the halves
pub composed : (f g : ℤ) (a b c d : ℕ) → a ≡ upper f → b ≡ lower f → c ≡ upper g → d ≡ lower g
    → cast_signed w64 ((a * c) % 2 ^ 32 * 2 ^ 32 + ((b * c) % 2 ^ 32 + d) % 2 ^ 32) ≡ affine f g
composed f g a b c d p q r s =
    ap (λ n. cast_signed w64 ((a * c) % 2 ^ 32 * 2 ^ 32 + n)) (mod-add-mod (b * c) (2 ^ 32) d)
    ∙ (λ i. cast_signed w64 ((p i * r i) % 2 ^ 32 * 2 ^ 32 + (q i * r i + s i) % 2 ^ 32))
    ∙ sym (signed_cast ((upper f * upper g) % 2 ^ 32 * 2 ^ 32 + (lower f * upper g + lower g) % 2 ^ 32)
    (small ((upper f * upper g) % 2 ^ 32) ((lower f * upper g + lower g) % 2 ^ 32) (mod-lt (upper f * upper g) many)
    (mod-lt (lower f * upper g + lower g) many)))
  where
    small : (m n : ℕ) → m < 2 ^ 32 → n < 2 ^ 32 → m * 2 ^ 32 + n < 2 ^ 64
    small m n h k = omega arith
