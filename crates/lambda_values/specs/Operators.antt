-- Meaning: what each operator gives, over unbounded integers.
use Rattle.std.specs.Prelude.{ℕ, zero, suc, ◌^◌, ◌/◌, ◌%◌, ℤ, pos, negsuc, neg_ℤ, ◌+ℤ◌, ◌-ℤ◌, ◌*ℤ◌, Bool, true, false}
use Rattle.std.specs.Prelude.{not, Result, Ok, Err, if◌then◌else◌, int_lt, int_div, int_rem, unsigned_abs, nat_lt}
use Rattle.std.specs.Ordering.{int_eq}
use Rattle.std.specs.Int.{w64, cast_unsigned, int_bit_and, int_bit_or, int_bit_xor, int_max, int_min}
use Rattle.lambda_values.specs.declared.fault.FaultKind.{FaultKind}
use Rattle.lambda_values.specs.declared.fault.FaultKind.TheVariants.{DivideByZero, Overflow}
use Rattle.lambda_values.specs.declared.operator.UnaryOperator.{UnaryOperator}
use Rattle.lambda_values.specs.declared.operator.UnaryOperator.TheVariants as unary_operator
use Rattle.lambda_values.specs.declared.operator.BinaryOperator.{BinaryOperator}
use Rattle.lambda_values.specs.declared.operator.BinaryOperator.TheVariants as binary_operator
use Rattle.lambda_values.specs.declared.operator.Faults.{Faults}
use Rattle.lambda_values.specs.declared.operator.Faults.TheVariants as faults
use Rattle.lambda_values.specs.declared.operator.Comparison.{Comparison}
use Rattle.lambda_values.specs.declared.operator.Comparison.TheVariants as comparison
use Rattle.lambda_values.specs.Wrap.{wrap}

-- a fault is the result; else the rest is evaluated with the value (JLS 17, 15.6 and 15.7.1)
abbrev pub on : {A B : Type 0} → Result A FaultKind → (A → Result B FaultKind) → Result B FaultKind
on (Err e) rest = Err e
on (Ok v) rest = rest v

-- the integer is from -2^63 to 2^63 - 1
abbrev pub is_long : ℤ → Bool
is_long (pos n) = nat_lt n (2 ^ 63)
is_long (negsuc n) = nat_lt n (2 ^ 63)

-- the result of an exact method of java.lang.Math, which throws outside of 64 bits
abbrev pub exact : ℤ → Result ℤ FaultKind
exact z = if is_long z then Ok z else Err Overflow

-- a divisor of 0 is a fault (JLS 17, 15.17.2 and 15.17.3; Math.floorDiv, Math.floorMod)
abbrev pub divided : ℤ → ℤ → Result ℤ FaultKind
divided y z = if int_eq y (pos 0) then Err DivideByZero else Ok z

-- x over y, rounded down, for y other than 0
abbrev pub rounded_down : ℤ → ℤ → ℤ
rounded_down (pos a) (pos b) = pos (a / b)
rounded_down (negsuc a) (pos b) = negsuc (a / b)
rounded_down (pos zero) (negsuc b) = pos 0
rounded_down (pos (suc a)) (negsuc b) = negsuc (a / suc b)
rounded_down (negsuc a) (negsuc b) = pos (suc a / suc b)

-- a remainder other than 0 has not the sign of the divisor
abbrev pub is_opposite : ℤ → ℤ → Bool
is_opposite (pos zero) y = false
is_opposite (pos (suc r)) (pos b) = false
is_opposite (pos (suc r)) (negsuc b) = true
is_opposite (negsuc r) (pos b) = true
is_opposite (negsuc r) (negsuc b) = false

-- how far a shift goes: the six lowest bits of the right operand (JLS 17, 15.19)
abbrev pub low_six_bits : ℤ → ℕ
low_six_bits y = cast_unsigned w64 y % 64

-- `<<` multiplies by a power of two, `>>` divides by it, rounded down, and `>>>` divides the 64 bits as an unsigned
-- number (JLS 17, 15.19)
abbrev pub shifted_left : ℤ → ℤ → ℤ
shifted_left x y = wrap (x *ℤ pos (2 ^ low_six_bits y))

abbrev pub shifted_right : ℤ → ℤ → ℤ
shifted_right x y = rounded_down x (pos (2 ^ low_six_bits y))

abbrev pub shifted_right_unsigned : ℤ → ℤ → ℤ
shifted_right_unsigned x y = wrap (pos (cast_unsigned w64 x / 2 ^ low_six_bits y))

-- how an operator on one number has its value: always, or if 64 bits hold it, else a fault
pub data UnaryRule : Type 0 where
  always_one : (ℤ → ℤ) → UnaryRule
  exactly_one : (ℤ → ℤ) → UnaryRule

-- and one on two numbers: always; unless the second one is 0, which is a fault; or if 64 bits hold it, else a fault
pub data BinaryRule : Type 0 where
  always : (ℤ → ℤ → ℤ) → BinaryRule
  unless_zero : (ℤ → ℤ → ℤ) → BinaryRule
  exactly : (ℤ → ℤ → ℤ) → BinaryRule

-- of one operand: JLS 17, 15.15.4 and 15.15.5; Math.abs, Math.negateExact
abbrev pub unary_rule : UnaryOperator → UnaryRule
unary_rule unary_operator.Negate = always_one (λ x. wrap (neg_ℤ x))
unary_rule unary_operator.Complement = always_one (λ x. neg_ℤ x -ℤ pos 1)
unary_rule unary_operator.Absolute = always_one (λ x. wrap (pos (unsigned_abs x)))
unary_rule unary_operator.NegateExact = exactly_one neg_ℤ

-- of two operands: JLS 17, 15.17 to 15.19 and 15.22.1; Math.min, max, floorDiv, floorMod, addExact, subtractExact,
-- multiplyExact. `/` rounds toward zero, `%` has the sign of the dividend
abbrev pub binary_rule : BinaryOperator → BinaryRule
binary_rule binary_operator.Add = always (λ x y. wrap (x +ℤ y))
binary_rule binary_operator.Subtract = always (λ x y. wrap (x -ℤ y))
binary_rule binary_operator.Multiply = always (λ x y. wrap (x *ℤ y))
binary_rule binary_operator.Divide = unless_zero (λ x y. wrap (int_div x y))
binary_rule binary_operator.Remainder = unless_zero int_rem
binary_rule binary_operator.ShiftLeft = always shifted_left
binary_rule binary_operator.ShiftRight = always shifted_right
binary_rule binary_operator.ShiftRightUnsigned = always shifted_right_unsigned
binary_rule binary_operator.And = always (int_bit_and w64)
binary_rule binary_operator.Xor = always (int_bit_xor w64)
binary_rule binary_operator.Or = always (int_bit_or w64)
binary_rule binary_operator.Min = always int_min
binary_rule binary_operator.Max = always int_max
binary_rule binary_operator.FloorDivide = unless_zero (λ x y. wrap (rounded_down x y))
binary_rule binary_operator.FloorRemainder = unless_zero (λ x y. wrap (x -ℤ rounded_down x y *ℤ y))
binary_rule binary_operator.AddExact = exactly (λ x y. x +ℤ y)
binary_rule binary_operator.SubtractExact = exactly (λ x y. x -ℤ y)
binary_rule binary_operator.MultiplyExact = exactly (λ x y. x *ℤ y)

-- helper: the value by a rule
abbrev pub unary_by : UnaryRule → ℤ → Result ℤ FaultKind
unary_by (always_one f) x = Ok (f x)
unary_by (exactly_one f) x = exact (f x)

-- helper
abbrev pub binary_by : BinaryRule → ℤ → ℤ → Result ℤ FaultKind
binary_by (always f) x y = Ok (f x y)
binary_by (unless_zero f) x y = divided y (f x y)
binary_by (exactly f) x y = exact (f x y)

-- what an operator on one number gives
abbrev pub unary_value : UnaryOperator → ℤ → Result ℤ FaultKind
unary_value o x = unary_by (unary_rule o) x

-- what an operator on two numbers gives
abbrev pub binary_value : BinaryOperator → ℤ → ℤ → Result ℤ FaultKind
binary_value o x y = binary_by (binary_rule o) x y

-- helper: a division by its name
abbrev pub quotient : ℤ → ℤ → Result ℤ FaultKind
quotient x y = binary_value binary_operator.Divide x y

-- helper: a remainder, by its name
abbrev pub remainder : ℤ → ℤ → Result ℤ FaultKind
remainder x y = binary_value binary_operator.Remainder x y

-- helper: the division of Math.floorDiv, by its name
abbrev pub floor_quotient : ℤ → ℤ → Result ℤ FaultKind
floor_quotient x y = binary_value binary_operator.FloorDivide x y

-- helper: the remainder of Math.floorMod, by its name
abbrev pub floor_remainder : ℤ → ℤ → Result ℤ FaultKind
floor_remainder x y = binary_value binary_operator.FloorRemainder x y

-- when an operator by this rule has a fault
abbrev pub unary_faults_by : UnaryRule → Faults
unary_faults_by (always_one f) = faults.Never
unary_faults_by (exactly_one f) = faults.Overflow

abbrev pub binary_faults_by : BinaryRule → Faults
binary_faults_by (always f) = faults.Never
binary_faults_by (unless_zero f) = faults.ByZero
binary_faults_by (exactly f) = faults.Overflow

abbrev pub unary_faults : UnaryOperator → Faults
unary_faults o = unary_faults_by (unary_rule o)

abbrev pub binary_faults : BinaryOperator → Faults
binary_faults o = binary_faults_by (binary_rule o)

-- how two numbers compare (JLS 17, 15.20.1 and 15.21.1)
abbrev pub comparison_value : Comparison → ℤ → ℤ → Bool
comparison_value comparison.Equal x y = int_eq x y
comparison_value comparison.NotEqual x y = not (int_eq x y)
comparison_value comparison.Less x y = int_lt x y
comparison_value comparison.LessOrEqual x y = not (int_lt y x)
comparison_value comparison.Greater x y = int_lt y x
comparison_value comparison.GreaterOrEqual x y = not (int_lt x y)
