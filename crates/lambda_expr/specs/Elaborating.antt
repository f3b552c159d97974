-- Condition: the term of an expression from its steps, with a stack of the terms of operands.
use Rattle.std.specs.Prelude.{List, [], ◌∷◌, pos}
use Rattle.lambda_expr.specs.declared.step.ParseStep.{ParseStep}
use Rattle.lambda_expr.specs.declared.step.ParseStep.TheVariants as step
use Rattle.lambda_expr.specs.declared.step.Opening.TheVariants.{Paren, Call}
use Rattle.lambda_expr.specs.declared.elaborate.TypedOperand.{TypedOperand}
use Rattle.lambda_expr.specs.declared.elaborate.TypedOperand.TheVariants as operand
use Rattle.job_names.specs.ColumnKeys.{key_of}
use Rattle.lambda_expr.specs.Lexemes.{Names, value_in}
use Rattle.lambda_expr.specs.Stacks.{below, top_or}
use Rattle.lambda_values.specs.Term as term
use Rattle.lambda_values.specs.Term.{long_of, truth_of}
use Rattle.lambda_expr.specs.Typing.{Typed, long, boolean, longs, untyped, called_with, constant_of, constant_typed}
use Rattle.lambda_expr.specs.Typing.{function_of, operated, prefixed, selected}
use Rattle.lambda_expr.specs.Signs.{operation_of}
use Rattle.lambda_values.specs.Wrap.{wrap}

-- the typed expression that an operand of the program means
abbrev pub typed_of : TypedOperand → Typed
typed_of (operand.Long e) = long (long_of e)
typed_of (operand.Truth e) = boolean (truth_of e)
typed_of (operand.Longs pair) = longs (long_of pair.left) (long_of pair.right)
typed_of operand.Untyped = untyped

abbrev pub operands_of : List TypedOperand → List Typed
operands_of [] = []
operands_of (o ∷ os) = typed_of o ∷ operands_of os

abbrev pub top_typed : List Typed → Typed
top_typed ts = top_or untyped ts

-- one step over the terms of operands
abbrev pub typed_step : Names → ParseStep → List Typed → List Typed
typed_step h (step.Name i) ts = long (term.parameter i.number) ∷ ts
typed_step h (step.Number n) ts = long (term.number (wrap (pos (value_in n)))) ∷ ts
typed_step h (step.Truth b) ts = boolean (term.literal b) ∷ ts
typed_step h (step.Reference i) ts = long (term.reference (h i)) ∷ ts
typed_step h (step.Cell i) ts = long (term.cell (h i)) ∷ ts
typed_step h (step.DecimalCell i p) ts = long (term.cell (key_of (h i) p)) ∷ ts
typed_step h step.Row ts = long term.row ∷ ts
typed_step h (step.Constant n) ts = constant_typed (constant_of n) ∷ ts
typed_step h (step.Prefix s) ts = prefixed s (top_typed ts) ∷ below ts
typed_step h (step.Binary s) ts = operated (top_typed (below ts)) (top_typed ts) (operation_of s) ∷ below (below ts)
typed_step h step.Ternary ts =
    selected (top_typed (below (below ts))) (top_typed (below ts)) (top_typed ts) ∷ below (below (below ts))
typed_step h (step.Enclose Paren) ts = top_typed ts ∷ below ts
typed_step h (step.Enclose (Call o n)) ts = called_with (function_of o n) (top_typed ts) ∷ below ts

abbrev pub typed_steps : Names → List Typed → List ParseStep → List Typed
typed_steps h ts [] = ts
typed_steps h ts (s ∷ ss) = typed_steps h (typed_step h s ts) ss
