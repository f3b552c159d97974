use Rattle.std.proofs.Common.{◌≡◌, ◌≤◌, ◌^◌, ◌-◌, min, drop}
use Rattle.std.specs.Prelude.{take_while}
use Rattle.std.specs.Char.{is_ascii_digit}
use Rattle.lambda_expr.specs.Numerals.{numeral_value, read_on}
use Rattle.lambda_expr.proofs.number.numeral_value.Given as goal

-- what is read and what is left are the number
abbrev pub invariant-loop-byte : goal.invariant-loop-byte
invariant-loop-byte l = (l.value ≤ 2 ^ 64 - 1)
    × (min (read_on l.value (take_while is_ascii_digit (drop l.byte-index l.number))) (2 ^ 64 - 1)
    ≡ min (numeral_value l.number) (2 ^ 64 - 1))
