-- The 64 bits of an integer, and the signed number that has given bits.
use Rattle.std.proofs.Common.{◌≡◌, ℕ, ◌%◌, ◌^◌, ◌<◌, ℤ, pos, negsuc, sym, ap, ◌∙◌, arith, max, FitsSigned, bit_and}
use Rattle.std.proofs.Common.{bit_or, bit_xor}
use Rattle.std.specs.Int.{w64, int_wrap, cast_signed, cast_unsigned, bit_at}
use Rattle.std.specs.Int.Bits.{and_lt, or_lt, xor_lt, xor_assoc}
use Rattle.std.proofs.lemmas.Int.{of_z-to_z, to_z-of_z, SFits-int_wrap}
use Rattle.std.proofs.lemmas.Nat.{and_assoc}
use Rattle.std.proofs.lemmas.Nat.Bits.{bit_at_or, same_from_bits}
use Rattle.reduce_ops.specs.Operators.{bits_of, signed}

pub bits_below : (z : ℤ) → bits_of z < 2 ^ 64
bits_below (pos a) = omega arith
bits_below (negsuc a) = omega arith

-- on the values of 64 bits these are the bits that a cast gives
pub bits_cast : (z : ℤ) → FitsSigned w64 z → bits_of z ≡ cast_unsigned w64 z
bits_cast (pos a) h = let k : a < 2 ^ 63 = h.sfits in omega arith
bits_cast (negsuc a) h = let k : a < 2 ^ 63 = h.sfits in omega arith

pub signed_cast : (n : ℕ) → n < 2 ^ 64 → signed n ≡ cast_signed w64 n
unfolding int_wrap
signed_cast n h = let e : n % 2 ^ 64 ≡ n = omega arith in ap (cast_signed w64) e

pub bits_signed : (n : ℕ) → n < 2 ^ 64 → bits_of (signed n) ≡ n
bits_signed n h = bits_cast (signed n) (SFits-int_wrap w64 (pos n)) ∙ ap (cast_unsigned w64) (signed_cast n h)
    ∙ of_z-to_z w64 n h

pub signed_bits : (z : ℤ) → FitsSigned w64 z → signed (bits_of z) ≡ z
signed_bits z h = signed_cast (bits_of z) (bits_below z) ∙ ap (cast_signed w64) (bits_cast z h) ∙ to_z-of_z w64 z h

-- an operator on bits that keeps to 64 bits is associative on integers if it is so on bits
pub by_bits : (f : ℕ → ℕ → ℕ) → ((a b : ℕ) → a < 2 ^ 64 → b < 2 ^ 64 → f a b < 2 ^ 64)
    → ((a b c : ℕ) → f (f a b) c ≡ f a (f b c))
    → (a b c : ℤ) → signed (f (bits_of (signed (f (bits_of a) (bits_of b)))) (bits_of c))
    ≡ signed (f (bits_of a) (bits_of (signed (f (bits_of b) (bits_of c)))))
by_bits f small grouped a b c =
    ap (λ n. signed (f n (bits_of c))) (bits_signed (f (bits_of a) (bits_of b))
    (small (bits_of a) (bits_of b) (bits_below a) (bits_below b)))
    ∙ ap signed (grouped (bits_of a) (bits_of b) (bits_of c))
    ∙ sym (ap (λ n. signed (f (bits_of a) n))
    (bits_signed (f (bits_of b) (bits_of c)) (small (bits_of b) (bits_of c) (bits_below b) (bits_below c))))

-- what the program computes from the bits of two values
pub from_bits : (f : ℕ → ℕ → ℕ) → ((a b : ℕ) → a < 2 ^ 64 → b < 2 ^ 64 → f a b < 2 ^ 64) → (a b : ℤ) → FitsSigned w64 a
    → FitsSigned w64 b
    → cast_signed w64 (f (cast_unsigned w64 a) (cast_unsigned w64 b)) ≡ signed (f (bits_of a) (bits_of b))
from_bits f small a b p q =
    sym (signed_cast (f (bits_of a) (bits_of b)) (small (bits_of a) (bits_of b) (bits_below a) (bits_below b))
    ∙ (λ i. cast_signed w64 (f (bits_cast a p i) (bits_cast b q i))))

-- the greatest of three bits
max_assoc : (a b c : ℕ) → max (max a b) c ≡ max a (max b c)
max_assoc a b c = omega arith

pub or_assoc : (a b c : ℕ) → bit_or (bit_or a b) c ≡ bit_or a (bit_or b c)
or_assoc a b c = same_from_bits (bit_or (bit_or a b) c) (bit_or a (bit_or b c)) (λ i.
    bit_at_or (bit_or a b) c i ∙ ap (λ n. max n (bit_at c i)) (bit_at_or a b i)
    ∙ max_assoc (bit_at a i) (bit_at b i) (bit_at c i)
    ∙ sym (bit_at_or a (bit_or b c) i ∙ ap (max (bit_at a i)) (bit_at_or b c i)))

pub and_grouped : (a b c : ℤ) → signed (bit_and (bits_of (signed (bit_and (bits_of a) (bits_of b)))) (bits_of c))
    ≡ signed (bit_and (bits_of a) (bits_of (signed (bit_and (bits_of b) (bits_of c)))))
and_grouped = by_bits bit_and (and_lt 64) (λ a b c. and_assoc c a b)

pub or_grouped : (a b c : ℤ) → signed (bit_or (bits_of (signed (bit_or (bits_of a) (bits_of b)))) (bits_of c))
    ≡ signed (bit_or (bits_of a) (bits_of (signed (bit_or (bits_of b) (bits_of c)))))
or_grouped = by_bits bit_or (or_lt 64) or_assoc

pub xor_grouped : (a b c : ℤ) → signed (bit_xor (bits_of (signed (bit_xor (bits_of a) (bits_of b)))) (bits_of c))
    ≡ signed (bit_xor (bits_of a) (bits_of (signed (bit_xor (bits_of b) (bits_of c)))))
xor_grouped = by_bits bit_xor (xor_lt 64) xor_assoc
