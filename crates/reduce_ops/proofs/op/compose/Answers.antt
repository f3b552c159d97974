use Rattle.std.proofs.Common.{rules, ◌∙◌, ap, ◌*◌, ◌+◌, to_z, w64, FitsSigned}
use Rattle.std.proofs.lemmas.Int.{to_z-of_z}
use Rattle.reduce_ops.specs.Operators.{upper, lower}
use Rattle.reduce_ops.proofs.Affine.{composed}
use Rattle.reduce_ops.proofs.op.compose.Goals as goal

pub returns : goal.returns
returns c =
    let fits : FitsSigned w64 c.cast_signed.result = search rules in
    let first = to_z-of_z w64 c.args.first c.ranges.first in
    let second = to_z-of_z w64 c.args.second c.ranges.second in
    to_z-of_z w64 c.cast_signed.result fits ∙ c.cast_signed.ensures
    ∙ (λ i. to_z w64 (c.from.ensures i * 4294967296 + c.from-2.ensures i))
    ∙ composed c.args.first c.args.second c.halves-first_factor.result.0 c.halves-first_factor.result.1
    c.halves-factor.result.0 c.halves-factor.result.1
    (c.halves-first_factor.ensures.upper ∙ ap upper first) (c.halves-first_factor.ensures.lower ∙ ap lower first)
    (c.halves-factor.ensures.upper ∙ ap upper second) (c.halves-factor.ensures.lower ∙ ap lower second)
