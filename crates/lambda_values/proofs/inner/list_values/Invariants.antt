use Rattle.std.proofs.Common.{◌≡◌, ◌++◌, drop, length, Ok}
use Rattle.lambda_values.specs.Operators.{on}
use Rattle.lambda_values.specs.Streams.{each_value, exprs_of}
use Rattle.lambda_values.proofs.inner.list_values.Given as goal

-- the values so far, and the values of the operands that are left
abbrev pub invariant-loop-expr : goal.invariant-loop-expr
invariant-loop-expr l = (length l.listed.items ≡ l.expr-index) × (l.expr-items ≡ l.operands.exprs.items)
    × (on (each_value (exprs_of (drop l.expr-index l.expr-items)) l.x l.env) (λ vs. Ok (l.listed.items ++ vs))
    ≡ each_value (exprs_of l.operands.exprs.items) l.x l.env)
