-- Condition: division by powers of two.
use Rattle.std.specs.Prelude.{ℕ, ◌^◌, ℤ, pos, negsuc, neg_ℤ, Result}
use Rattle.lambda_values.specs.declared.fault.FaultKind.{FaultKind}
use Rattle.lambda_values.specs.declared.operator.BinaryOperator.{BinaryOperator}
use Rattle.lambda_values.specs.Operators.{binary_value, low_six_bits}

-- the power of two with this exponent, from 2^0 to 2^63
abbrev pub power : ℤ → ℕ
power k = 2 ^ low_six_bits k

-- an operator whose right operand is a power of two, by the exponent
abbrev pub by_power_value : BinaryOperator → ℤ → ℤ → Result ℤ FaultKind
by_power_value operator x k = binary_value operator x (pos (power k))

-- a magnitude with the sign of an integer
abbrev pub with_sign_of : ℤ → ℕ → ℤ
with_sign_of (pos a) m = pos m
with_sign_of (negsuc a) m = neg_ℤ (pos m)
