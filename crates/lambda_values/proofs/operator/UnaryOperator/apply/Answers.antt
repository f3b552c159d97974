use Rattle.std.proofs.Common.{◌≡◌, ◌∙◌, FitsSigned, Ok, ap, rules, to_z, w64}
use Rattle.std.specs.Prelude.{unsigned_abs}
use Rattle.std.proofs.lemmas.Int.{to_z-of_z, wraps}
use Rattle.lambda_values.proofs.Quotients.{absolute_wraps}
use Rattle.lambda_values.proofs.operator.UnaryOperator.apply.Goals as goal

pub returns-in-Negate : goal.returns-in-Negate
returns-in-Negate c = search (rules, wraps)

pub returns-in-Absolute : goal.returns-in-Absolute
returns-in-Absolute c =
    let r = c.wrapping_abs.result in
    let fits : FitsSigned w64 r = search rules in
    let is : r ≡ to_z w64 (unsigned_abs c.args.x) = search rules in
    rw c.in-Absolute.is (ap Ok (to_z-of_z w64 r fits ∙ is ∙ absolute_wraps c.args.x c.ranges.x))
