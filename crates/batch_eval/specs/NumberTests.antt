-- Condition: comparisons with a number as one comparison, of some bits or of all.
use Rattle.std.specs.Int.{w64, int_bit_and}
use Rattle.std.specs.Prelude.{ℕ, suc, ◌-◌, ◌%◌, ◌^◌, ℤ, pos, negsuc, ◌+ℤ◌}
use Rattle.lambda_values.specs.Wrap.{wrap}
use Rattle.batch_eval.specs.declared.number_test.Seen.{Seen}
use Rattle.batch_eval.specs.declared.number_test.Seen.TheVariants as seen
use Rattle.batch_eval.specs.Powers.{power}

-- what is left of an integer, rounded down, by a power of two
abbrev pub rest_of : ℤ → ℕ → ℤ
rest_of (pos a) p = pos (a % p)
rest_of (negsuc a) p = pos (p - suc (a % p))

-- what a comparison sees of a number
abbrev pub seen_of : Seen → ℤ → ℤ
seen_of seen.All z = z
seen_of (seen.Masked m) z = int_bit_and w64 z m
seen_of (seen.Rest k) z = rest_of z (power k)

-- the shift that makes a number the least integer: what is taken from integers, which wrap to 64 bits
abbrev pub to_least : ℤ → ℤ
to_least number = wrap (number +ℤ pos (2 ^ 63))
