use Rattle.std.proofs.Common.{leb, sym, ap, ◌∙◌, arith}
use lib.Count.{count_trailing_zeros}
use Rattle.std.proofs.lemmas.Simd.{leading_from_mask_l, trailing_mask_l}
use Rattle.columns.proofs.LaneLemmas.{ten_or_more}
use Rattle.columns.proofs.digits.lanes_below_ten.Goals as goal

pub returns-then-others-eq0 : goal.returns-then-others-eq0
returns-then-others-eq0 c =
    let v = c.args.lanes in
    let long = c.fits-lanes.0 in
    sym (leading_from_mask_l (λ x. leb 10 x) v (sym (ten_or_more v long) ∙ c.if-others-eq0.true) ∙ long)

pub returns-else-others-eq0 : goal.returns-else-others-eq0
returns-else-others-eq0 c =
    let v = c.args.lanes in
    let long = c.fits-lanes.0 in
    let others = ten_or_more v long in
    ap (count_trailing_zeros 64) others ∙ trailing_mask_l (λ x. leb 10 x) 64 v (omega arith) (omega arith)
