-- Condition: division by multiplication.
use Rattle.std.specs.Prelude.{◌≡◌, ℕ, ◌<◌, ◌≤◌, ◌+◌, ◌*◌, ◌-◌, ◌/◌, ◌%◌, ◌^◌, ℤ, pos, negsuc, FitsSigned, unsigned_abs}
use Rattle.std.specs.Int.{w64, cast_unsigned}
use Rattle.batch_eval.specs.declared.reciprocal.Reciprocal.{Reciprocal}
use Rattle.batch_eval.specs.declared.reciprocal.ShortReciprocal.{ShortReciprocal}

-- a magnitude that needs no more than these bits with its sign, over the magnitude of the divisor, is a product with
-- the factor over a power of two
pub record Divides (bits : ℕ) (y : ℤ) (m s : ℕ) : Type 0 where
  pub divides : (n : ℕ) → n ≤ 2 ^ (bits - 1) → n * m / 2 ^ bits / 2 ^ s ≡ n / unsigned_abs y
  pub shift : s < bits
  pub divisor : 1 < unsigned_abs y

-- it divides the magnitudes of all integers of 64 bits
abbrev pub IsReciprocal : Reciprocal → Type 0
IsReciprocal r = Divides 64 r.divisor (r.high * 2 ^ 32 + r.low) r.shift

-- it divides the magnitudes of all integers of 32 bits
abbrev pub IsShortReciprocal : ShortReciprocal → Type 0
IsShortReciprocal r = Divides 32 r.divisor r.factor r.shift

-- the magnitude of an integer of 64 bits is no more than this
abbrev pub IsWithin : ℕ → ℤ → Type 0
IsWithin most x = FitsSigned w64 x → unsigned_abs x ≤ most

-- the lower 31 bits of a number
abbrev pub natural : ℤ → ℤ
natural x = pos (cast_unsigned w64 x % 2 ^ 31)

-- how far an integer is from 0, or from -1 if it is below 0
abbrev pub distance : ℤ → ℕ
distance (pos a) = a
distance (negsuc a) = a

-- the integer that is so far from 0, or from -1 if x is below 0
abbrev pub away : ℤ → ℕ → ℤ
away (pos a) n = pos n
away (negsuc a) n = negsuc n
