use Rattle.std.proofs.Common.{◌≡◌, ◌++◌, drop}
use Rattle.lambda_values.specs.References.{each_names}
use Rattle.lambda_values.specs.Streams.{exprs_of}
use Rattle.lambda_values.proofs.names.push_each.Given as goal

-- the names so far, and the names of the expressions that are left
abbrev pub invariant-loop-expr : goal.invariant-loop-expr
invariant-loop-expr l = l.names.items ++ each_names (exprs_of (drop l.expr-index l.exprs))
    ≡ l.initial.names.items ++ each_names (exprs_of l.exprs)
