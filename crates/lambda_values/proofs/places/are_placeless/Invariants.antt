use Rattle.std.proofs.Common.{◌≡◌, drop}
use Rattle.lambda_values.specs.Places.{each_is_placeless}
use Rattle.lambda_values.specs.Streams.{exprs_of}
use Rattle.lambda_values.proofs.places.are_placeless.Given as goal

-- the expressions that are left decide
abbrev pub invariant-loop-expr : goal.invariant-loop-expr
invariant-loop-expr l = each_is_placeless (exprs_of (drop l.expr-index l.exprs)) ≡ each_is_placeless (exprs_of l.exprs)
