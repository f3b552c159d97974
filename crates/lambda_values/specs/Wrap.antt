-- Meaning: what 64 bits keep of an integer.
use Rattle.std.specs.Prelude.{ℤ}
use Rattle.std.specs.Int.{w64, int_wrap}

-- the integer from -2^63 to 2^63 - 1 that differs from z by a multiple of 2^64 (JLS 17, 15.17.1 and 15.18.2)
abbrev pub wrap : ℤ → ℤ
wrap z = int_wrap w64 z
