-- Meaning: which of the listed forms the body of a lambda of two parameters has.
use Rattle.std.specs.Prelude.{ℕ, zero, suc, Option, Some}
use Rattle.lambda_expr.specs.declared.check.BodyForm.{BodyForm}
use Rattle.lambda_expr.specs.declared.check.BodyForm.TheVariants.{Operands, Single}
use Rattle.lambda_values.specs.declared.lambda.PairForm.{PairForm}
use Rattle.lambda_values.specs.declared.lambda.PairForm.TheVariants.{First, Second, Sum, Product, Min, Max, And, Or}
use Rattle.lambda_values.specs.declared.lambda.PairForm.TheVariants.{Xor, ExactSum, Other}
use Rattle.lambda_expr.specs.declared.sign.Sign.{Sign}
use Rattle.lambda_expr.specs.declared.sign.Sign.TheVariants as sign
use Rattle.lambda_expr.specs.declared.step.Opening.{Opening}
use Rattle.lambda_expr.specs.declared.step.Opening.TheVariants.{Paren, Call}
use Rattle.lambda_values.specs.declared.operator.BinaryOperator.TheVariants as binary_operator
use Rattle.lambda_expr.specs.declared.operation.Function.{Function}
use Rattle.lambda_expr.specs.declared.operation.Function.TheVariants.{Binary}
use Rattle.lambda_expr.specs.Grammar.{Shape, name, number, truth, reference, cell, decimal_cell, row, constant}
use Rattle.lambda_expr.specs.Grammar.{prefix, binary, ternary, enclosed}
use Rattle.lambda_expr.specs.Typing.{function_of}

-- a name by itself: `a`, `b`
abbrev pub name_form : ℕ → BodyForm
name_form zero = Single First
name_form (suc zero) = Single Second
name_form (suc (suc n)) = Single Other

-- a sign between the two parameters: `a + b`, `a * b`, `a & b`, `a | b`, `a ^ b`; after a comma they are operands
abbrev pub sign_form : Sign → BodyForm
sign_form sign.Comma = Operands
sign_form sign.Add = Single Sum
sign_form sign.Multiply = Single Product
sign_form sign.BitAnd = Single And
sign_form sign.BitOr = Single Or
sign_form sign.BitXor = Single Xor
sign_form s = Single Other

-- the operands stand in the order of the parameters
abbrev pub binary_form : Sign → BodyForm → BodyForm → BodyForm
binary_form s (Single First) (Single Second) = sign_form s
binary_form s f g = Single Other

-- a method of the two parameters: `Long.sum(a, b)`; `min` and `max` of Math and Long; `Math.addExact(a, b)`
abbrev pub method_form : Option Function → BodyForm
method_form (Some (Binary binary_operator.Add)) = Single Sum
method_form (Some (Binary binary_operator.Min)) = Single Min
method_form (Some (Binary binary_operator.Max)) = Single Max
method_form (Some (Binary binary_operator.AddExact)) = Single ExactSum
method_form f = Single Other

abbrev pub called_form : Option Function → BodyForm → BodyForm
called_form f Operands = method_form f
called_form f (Single g) = Single Other

-- parentheses don't matter
abbrev pub enclosed_form : Opening → BodyForm → BodyForm
enclosed_form Paren f = f
enclosed_form (Call o n) f = called_form (function_of o n) f

abbrev pub form : Shape → BodyForm
form (name i) = name_form i.number
form (number n) = Single Other
form (truth b) = Single Other
form (reference i) = Single Other
form (cell i) = Single Other
form (decimal_cell i p) = Single Other
form row = Single Other
form (constant n) = Single Other
form (prefix s a) = Single Other
form (binary s a b) = binary_form s (form a) (form b)
form (ternary c p q) = Single Other
form (enclosed o a) = enclosed_form o (form a)

-- operands alone are no expression
abbrev pub whole_form : BodyForm → PairForm
whole_form Operands = Other
whole_form (Single f) = f
