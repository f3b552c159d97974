use Rattle.std.proofs.Common.{◌∙◌, ◌==◌, sym, ap, arith, w8}
use lib.Count.{count_trailing_zeros}
use Rattle.std.proofs.lemmas.Simd.{bitmask_splat, leading_from_mask_l, trailing_mask_l}
use Rattle.columns.proofs.text_cell.first_zero.Goals as goal

pub returns-then-zeros-eq0 : goal.returns-then-zeros-eq0
returns-then-zeros-eq0 c =
    let v = c.args.lanes in
    let long = c.fits-lanes.0 in
    sym (leading_from_mask_l (λ x. x == 0) v
    (sym (bitmask_splat w8 (λ a b. a == b) v 16 0 long (omega arith)) ∙ c.if-zeros-eq0.true) ∙ long)

pub returns-else-zeros-eq0 : goal.returns-else-zeros-eq0
returns-else-zeros-eq0 c =
    let v = c.args.lanes in
    let long = c.fits-lanes.0 in
    let zeros = bitmask_splat w8 (λ a b. a == b) v 16 0 long (omega arith) in
    ap (count_trailing_zeros 64) zeros ∙ trailing_mask_l (λ x. x == 0) 64 v (omega arith) (omega arith)
