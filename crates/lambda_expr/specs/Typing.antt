-- Meaning: the term that an expression means, by the types of its operands.
use Rattle.std.specs.Prelude.{pos, ℤ, Option, Some, None}
use Rattle.lambda_expr.specs.declared.sign.Sign.{Sign}
use Rattle.lambda_expr.specs.declared.sign.Sign.TheVariants as sign
use Rattle.lambda_expr.specs.declared.lexeme.ClassName.{ClassName as Class}
use Rattle.lambda_expr.specs.declared.lexeme.ClassName.TheVariants.{Math, Long as LongClass}
use Rattle.lambda_expr.specs.declared.table.Member.{Member}
use Rattle.lambda_expr.specs.declared.table.Member.TheVariants as member
use Rattle.lambda_expr.specs.declared.lexeme.Name.{Name}
use Rattle.lambda_expr.specs.declared.lexeme.Name.TheVariants.{Plain}
use Rattle.lambda_values.specs.declared.operator.UnaryOperator.TheVariants as unary_operator
use Rattle.lambda_expr.specs.declared.operation.SignOperation.{SignOperation}
use Rattle.lambda_expr.specs.declared.operation.SignOperation.TheVariants.{Compute, Compare, Connect, Separate}
use Rattle.lambda_expr.specs.declared.operation.Function.{Function}
use Rattle.lambda_expr.specs.declared.operation.Function.TheVariants.{Unary, Binary}
use Rattle.lambda_expr.specs.declared.step.Opening.TheVariants.{Paren, Call}
use Rattle.lambda_expr.specs.Grammar.{Shape, name, number, truth, reference, cell, decimal_cell, row, constant}
use Rattle.lambda_expr.specs.Grammar.{prefix, binary, ternary, enclosed}
use Rattle.lambda_expr.specs.Lexemes.{Names, value_in}
use Rattle.lambda_expr.specs.Signs.{operation_of}
use Rattle.job_names.specs.ColumnKeys.{key_of}
use Rattle.lambda_values.specs.Term as term
use Rattle.lambda_values.specs.Term.{Long, Truth}
use Rattle.lambda_values.specs.Wrap.{wrap}

-- the method of Math or Long that a name calls
abbrev pub method_of : Class → Member → Option Function
method_of Math (member.InMath f) = Some f
method_of Math (member.InBoth f) = Some f
method_of LongClass (member.InLong f) = Some f
method_of LongClass (member.InBoth f) = Some f
method_of o m = None

abbrev pub function_of : Class → Name → Option Function
function_of o (Plain i) = method_of o i.member
function_of o n = None

-- the constants of Long
abbrev pub member_value : Member → Option ℤ
member_value (member.Constant z) = Some z
member_value m = None

abbrev pub constant_of : Name → Option ℤ
constant_of (Plain i) = member_value i.member
constant_of n = None

-- what an expression is: a number, a boolean, two numbers that a call takes, or of no type
pub data Typed : Type 0 where
  long : Long → Typed
  boolean : Truth → Typed
  longs : Long → Long → Typed
  untyped : Typed

-- JLS 17, 15.15.3 to 15.15.6
abbrev pub prefixed : Sign → Typed → Typed
prefixed sign.Subtract (long a) = long (term.unary unary_operator.Negate a)
prefixed sign.Add (long a) = long a
prefixed sign.Complement (long a) = long (term.unary unary_operator.Complement a)
prefixed sign.Not (boolean a) = boolean (term.opposite a)
prefixed s t = untyped

-- JLS 17, 15.17 to 15.24
abbrev pub operated : Typed → Typed → SignOperation → Typed
operated (long a) (long b) (Compute o) = long (term.binary o a b)
operated (long a) (long b) (Compare o) = boolean (term.compare o a b)
operated (long a) (long b) Separate = longs a b
operated (boolean a) (boolean b) (Connect o) = boolean (term.connect o a b)
operated t u o = untyped

-- JLS 17, 15.25
abbrev pub selected : Typed → Typed → Typed → Typed
selected (boolean c) (long a) (long b) = long (term.choose c a b)
selected (boolean c) (boolean a) (boolean b) = boolean (term.choose_truth c a b)
selected t u v = untyped

-- JLS 17, 15.12
abbrev pub called_with : Option Function → Typed → Typed
called_with (Some (Unary o)) (long a) = long (term.unary o a)
called_with (Some (Binary o)) (longs a b) = long (term.binary o a b)
called_with f t = untyped

abbrev pub constant_typed : Option ℤ → Typed
constant_typed (Some z) = long (term.number z)
constant_typed None = untyped

-- the expression of a lambda, if its references have these names
abbrev pub typed : Names → Shape → Typed
typed h (name i) = long (term.parameter i.number)
typed h (number n) = long (term.number (wrap (pos (value_in n))))
typed h (truth b) = boolean (term.literal b)
typed h (reference i) = long (term.reference (h i))
typed h (cell i) = long (term.cell (h i))
typed h (decimal_cell i p) = long (term.cell (key_of (h i) p))
typed h row = long term.row
typed h (constant n) = constant_typed (constant_of n)
typed h (prefix s a) = prefixed s (typed h a)
typed h (binary s a b) = operated (typed h a) (typed h b) (operation_of s)
typed h (ternary c p q) = selected (typed h c) (typed h p) (typed h q)
typed h (enclosed Paren a) = typed h a
typed h (enclosed (Call o n) a) = called_with (function_of o n) (typed h a)
