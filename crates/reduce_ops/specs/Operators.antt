-- Meaning: the operators of folds, over integers of any size.
use Rattle.std.specs.Prelude.{◌≡◌, ℕ, ◌+◌, ◌*◌, ◌/◌, ◌%◌, ◌^◌, ℤ, pos, negsuc, ◌+ℤ◌, ◌*ℤ◌, int_lt, unsigned_abs}
use Rattle.std.specs.Prelude.{bit_and, bit_or, bit_xor, if◌then◌else◌, Option, Some, None, FitsSigned}
use Rattle.std.specs.Int.{w64, int_rem_euclid}
use Rattle.lambda_values.specs.Wrap.{wrap}
use Rattle.reduce_ops.specs.declared.op.Op.{Op}
use Rattle.reduce_ops.specs.declared.op.Op.TheVariants.{Sum, Product, Min, Max, And, Or, Xor, Affine, First, Last}

-- the 64 bits of an integer in two's complement, as a number below 2^64 (JLS 17, 4.2.1)
abbrev pub bits_of : ℤ → ℕ
bits_of z = unsigned_abs (int_rem_euclid z (pos (2 ^ 64)))

-- the signed number that has these bits
abbrev pub signed : ℕ → ℤ
signed n = wrap (pos n)

-- the upper 32 bits
abbrev pub upper : ℤ → ℕ
upper z = bits_of z / 2 ^ 32

-- the lower 32 bits
abbrev pub lower : ℤ → ℕ
lower z = bits_of z % 2 ^ 32

-- the map modulo 2^32 that a value encodes
abbrev pub map_of : ℤ → ℕ → ℕ
map_of f y = (upper f * y + lower f) % 2 ^ 32

-- the value that encodes the map f and then the map g
abbrev pub affine : ℤ → ℤ → ℤ
affine f g = signed ((upper f * upper g) % 2 ^ 32 * 2 ^ 32 + (lower f * upper g + lower g) % 2 ^ 32)

-- the value at two operands in encounter order (`Long.sum`, `Math.min`, `Math.max`; JLS 17, 15.17.1 and 15.22.1)
abbrev pub value_of : Op → ℤ → ℤ → ℤ
value_of Sum a b = wrap (a +ℤ b)
value_of Product a b = wrap (a *ℤ b)
value_of Min a b = if int_lt b a then b else a
value_of Max a b = if int_lt a b then b else a
value_of And a b = signed (bit_and (bits_of a) (bits_of b))
value_of Or a b = signed (bit_or (bits_of a) (bits_of b))
value_of Xor a b = signed (bit_xor (bits_of a) (bits_of b))
value_of Affine a b = affine a b
value_of First a b = a
value_of Last a b = b

-- the value that changes nothing on either side
abbrev pub identity_of : Op → Option ℤ
identity_of Sum = Some (pos 0)
identity_of Product = Some (pos 1)
identity_of Min = Some (pos 9223372036854775807)
identity_of Max = Some (negsuc 9223372036854775807)
identity_of And = Some (negsuc 0)
identity_of Or = Some (pos 0)
identity_of Xor = Some (pos 0)
identity_of Affine = Some (pos 4294967296)
identity_of First = None
identity_of Last = None

-- the operands may be grouped in any way
abbrev pub IsAssociative : (ℤ → ℤ → ℤ) → Type 0
IsAssociative f = (a b c : ℤ) → f (f a b) c ≡ f a (f b c)

-- on either side it leaves each value of 64 bits as it is
abbrev pub IsIdentity : (ℤ → ℤ → ℤ) → ℤ → Type 0
IsIdentity f i = (a : ℤ) → FitsSigned w64 a → (f i a ≡ a) × (f a i ≡ a)
