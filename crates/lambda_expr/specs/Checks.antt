-- Meaning: what an expression in the grammar is refused for, types aside.
use Rattle.std.specs.Prelude.{ℕ, suc, ◌^◌, max, Bool, true, false, ◌&&◌, nat_lt, nat_le, if◌then◌else◌}
use Rattle.std.specs.Option.{is_some}
use Rattle.lambda_expr.specs.declared.check.Literals.{Literals}
use Rattle.lambda_expr.specs.declared.check.Literals.TheVariants.{Number, Fit}
use Rattle.lambda_expr.specs.declared.sign.Sign.{Sign}
use Rattle.lambda_expr.specs.declared.sign.Sign.TheVariants as sign
use Rattle.lambda_expr.specs.declared.step.Opening.{Opening}
use Rattle.lambda_expr.specs.declared.step.Opening.TheVariants.{Paren, Call}
use Rattle.lambda_expr.specs.Grammar.{Shape, name, number, truth, reference, cell, decimal_cell, row, constant}
use Rattle.lambda_expr.specs.Grammar.{prefix, binary, ternary, enclosed}
use Rattle.lambda_expr.specs.Lexemes.{value_in}
use Rattle.lambda_expr.specs.Typing.{constant_of, function_of}

-- whether the numbers of an expression fit; a number by itself is at most 2^63 - 1
abbrev pub fit : Literals → Bool
fit (Number n) = nat_lt n (2 ^ 63)
fit (Fit b) = b

abbrev pub is_minus : Sign → Bool
is_minus sign.Subtract = true
is_minus s = false

-- 2^63 may stand directly after a minus (JLS 17, 3.10.1)
abbrev pub negated : Literals → Literals
negated (Number n) = Fit (nat_le n (2 ^ 63))
negated (Fit b) = Fit b

abbrev pub signed : Sign → Literals → Literals
signed s l = if is_minus s then negated l else Fit (fit l)

-- the number that an expression is, or whether its numbers fit
abbrev pub literals : Shape → Literals
literals (name i) = Fit true
literals (number n) = Number (value_in n)
literals (truth b) = Fit true
literals (reference i) = Fit true
literals (cell i) = Fit true
literals (decimal_cell i p) = Fit true
literals row = Fit true
literals (constant n) = Fit true
literals (prefix s a) = signed s (literals a)
literals (binary s a b) = Fit (fit (literals a) && fit (literals b))
literals (ternary c p q) = Fit (fit (literals c) && (fit (literals p) && fit (literals q)))
literals (enclosed o a) = Fit (fit (literals a))

abbrev pub is_comma : Sign → Bool
is_comma sign.Comma = true
is_comma s = false

-- an operator, a call and a pair of parentheses are one deeper than their deepest operand; a comma adds nothing
abbrev pub depth : Shape → ℕ
depth (name i) = 1
depth (number n) = 1
depth (truth b) = 1
depth (reference i) = 1
depth (cell i) = 1
depth (decimal_cell i p) = 1
depth row = 1
depth (constant n) = 1
depth (prefix s a) = suc (depth a)
depth (binary s a b) = if is_comma s then max (depth a) (depth b) else suc (max (depth a) (depth b))
depth (ternary c p q) = suc (max (depth c) (max (depth p) (depth q)))
depth (enclosed o a) = suc (depth a)

-- a call is of a method that there is
abbrev pub is_known : Opening → Bool
is_known Paren = true
is_known (Call o n) = is_some (function_of o n)

-- each name is one of n parameters, a method or a constant
abbrev pub names_known : ℕ → Shape → Bool
names_known n (name i) = nat_lt i.number n
names_known n (number k) = true
names_known n (truth b) = true
names_known n (reference i) = true
names_known n (cell i) = true
names_known n (decimal_cell i p) = true
names_known n row = true
names_known n (constant c) = is_some (constant_of c)
names_known n (prefix s a) = names_known n a
names_known n (binary s a b) = names_known n a && names_known n b
names_known n (ternary c q r) = names_known n c && (names_known n q && names_known n r)
names_known n (enclosed o a) = is_known o && names_known n a
