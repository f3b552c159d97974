use Rattle.std.proofs.Common.{◌≡◌, drop}
use Rattle.lambda_expr.specs.Members.{member_among, rows_in}
use Rattle.lambda_expr.proofs.table.member_among.Given as goal

abbrev pub invariant-loop-known : goal.invariant-loop-known
invariant-loop-known l = member_among (rows_in l.rows) l.name
    ≡ member_among (rows_in (drop l.known-index l.rows)) l.name
