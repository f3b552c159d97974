-- Meaning: the signs of expressions: how each is written, how tightly it binds, where it stands, and what it does.
use Rattle.std.specs.Prelude.{ℕ, Bool, true, false, Option, Some, None}
use Rattle.stream_tokens.specs.declared.symbol.Symbol.{Symbol}
use Rattle.stream_tokens.specs.declared.symbol.Symbol.TheVariants as symbol
use Rattle.lambda_expr.specs.declared.sign.Sign.{Sign}
use Rattle.lambda_expr.specs.declared.sign.Sign.TheVariants as sign
use Rattle.lambda_values.specs.declared.operator.BinaryOperator.TheVariants as binary_operator
use Rattle.lambda_values.specs.declared.operator.Comparison.TheVariants as comparison
use Rattle.lambda_values.specs.declared.operator.Connective.TheVariants as connective
use Rattle.lambda_expr.specs.declared.operation.SignOperation.{SignOperation}
use Rattle.lambda_expr.specs.declared.operation.SignOperation.TheVariants.{Compute, Compare, Connect, Separate, Nothing}

-- the sign that a symbol is
abbrev pub sign_of : Symbol → Option Sign
sign_of symbol.Comma = Some sign.Comma
sign_of symbol.OrOr = Some sign.Or
sign_of symbol.AndAnd = Some sign.And
sign_of symbol.Or = Some sign.BitOr
sign_of symbol.Xor = Some sign.BitXor
sign_of symbol.And = Some sign.BitAnd
sign_of symbol.Equal = Some sign.Equal
sign_of symbol.NotEqual = Some sign.NotEqual
sign_of symbol.Less = Some sign.Less
sign_of symbol.LessOrEqual = Some sign.LessOrEqual
sign_of symbol.Greater = Some sign.Greater
sign_of symbol.GreaterOrEqual = Some sign.GreaterOrEqual
sign_of symbol.ShiftLeft = Some sign.ShiftLeft
sign_of symbol.ShiftRight = Some sign.ShiftRight
sign_of symbol.ShiftRightUnsigned = Some sign.ShiftRightUnsigned
sign_of symbol.Plus = Some sign.Add
sign_of symbol.Minus = Some sign.Subtract
sign_of symbol.Star = Some sign.Multiply
sign_of symbol.Slash = Some sign.Divide
sign_of symbol.Percent = Some sign.Remainder
sign_of symbol.Tilde = Some sign.Complement
sign_of symbol.Bang = Some sign.Not
sign_of s = None

-- how tightly a sign binds; the comma has level 0, and `? :` level 1
abbrev pub level : Sign → ℕ
level sign.Comma = 0
level sign.Or = 2
level sign.And = 3
level sign.BitOr = 4
level sign.BitXor = 5
level sign.BitAnd = 6
level sign.Equal = 7
level sign.NotEqual = 7
level sign.Less = 8
level sign.LessOrEqual = 8
level sign.Greater = 8
level sign.GreaterOrEqual = 8
level sign.ShiftLeft = 9
level sign.ShiftRight = 9
level sign.ShiftRightUnsigned = 9
level sign.Add = 10
level sign.Subtract = 10
level sign.Multiply = 11
level sign.Divide = 11
level sign.Remainder = 11
level sign.Complement = 2
level sign.Not = 2

-- the sign may stand between two operands
abbrev pub is_infix : Sign → Bool
is_infix sign.Comma = true
is_infix sign.Or = true
is_infix sign.And = true
is_infix sign.BitOr = true
is_infix sign.BitXor = true
is_infix sign.BitAnd = true
is_infix sign.Equal = true
is_infix sign.NotEqual = true
is_infix sign.Less = true
is_infix sign.LessOrEqual = true
is_infix sign.Greater = true
is_infix sign.GreaterOrEqual = true
is_infix sign.ShiftLeft = true
is_infix sign.ShiftRight = true
is_infix sign.ShiftRightUnsigned = true
is_infix sign.Add = true
is_infix sign.Subtract = true
is_infix sign.Multiply = true
is_infix sign.Divide = true
is_infix sign.Remainder = true
is_infix sign.Complement = false
is_infix sign.Not = false

-- the sign may stand before an operand
abbrev pub is_prefix : Sign → Bool
is_prefix sign.Subtract = true
is_prefix sign.Add = true
is_prefix sign.Complement = true
is_prefix sign.Not = true
is_prefix s = false

-- what a sign does between two operands (JLS 17, 15.17 to 15.24)
abbrev pub operation_of : Sign → SignOperation
operation_of sign.Comma = Separate
operation_of sign.Or = Connect connective.Or
operation_of sign.And = Connect connective.And
operation_of sign.BitOr = Compute binary_operator.Or
operation_of sign.BitXor = Compute binary_operator.Xor
operation_of sign.BitAnd = Compute binary_operator.And
operation_of sign.Equal = Compare comparison.Equal
operation_of sign.NotEqual = Compare comparison.NotEqual
operation_of sign.Less = Compare comparison.Less
operation_of sign.LessOrEqual = Compare comparison.LessOrEqual
operation_of sign.Greater = Compare comparison.Greater
operation_of sign.GreaterOrEqual = Compare comparison.GreaterOrEqual
operation_of sign.ShiftLeft = Compute binary_operator.ShiftLeft
operation_of sign.ShiftRight = Compute binary_operator.ShiftRight
operation_of sign.ShiftRightUnsigned = Compute binary_operator.ShiftRightUnsigned
operation_of sign.Add = Compute binary_operator.Add
operation_of sign.Subtract = Compute binary_operator.Subtract
operation_of sign.Multiply = Compute binary_operator.Multiply
operation_of sign.Divide = Compute binary_operator.Divide
operation_of sign.Remainder = Compute binary_operator.Remainder
operation_of sign.Complement = Nothing
operation_of sign.Not = Nothing
