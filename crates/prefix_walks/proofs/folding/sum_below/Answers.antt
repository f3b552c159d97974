use Rattle.std.proofs.Common.{◌≡◌, ◌≢◌, ◌%◌, ◌^◌, ℕ, ap, ◌∙◌, arith, w64, to_z}
use Rattle.prefix_walks.proofs.RunFolds.{half_of_first, half_of_second, lower_bits}
use Rattle.prefix_walks.specs.Batches.{total_below}
use Rattle.prefix_walks.proofs.folding.sum_below.Goals as goal

pub returns-then-count-eq0 : goal.returns-then-count-eq0
returns-then-count-eq0 c =
    let even : c.args.count % 2 ≡ 0 = omega (arith, c.if-count-eq0.true) in
    ap (λ (n : ℕ). to_z w64 (n % 2 ^ 64)) (half_of_first c.args.count c.requires.some even)
    ∙ lower_bits (total_below c.args.count)

pub returns-else-count-eq0 : goal.returns-else-count-eq0
returns-else-count-eq0 c =
    let odd : c.args.count % 2 ≢ 0 = λ even. omega (arith, c.if-count-eq0.false, even) in
    ap (λ (n : ℕ). to_z w64 (n % 2 ^ 64)) (half_of_second c.args.count c.requires.some odd)
    ∙ lower_bits (total_below c.args.count)
