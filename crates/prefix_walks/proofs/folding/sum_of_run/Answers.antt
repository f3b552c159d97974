use Rattle.std.proofs.Common.{◌≡◌, ◌*◌, ◌%◌, ◌<◌, ◌≤◌, ◌^◌, ℤ, pos, ◌+ℤ◌, FitsSigned, Some, ap, ap₂, ◌∙◌}
use Rattle.std.proofs.Common.{arith, rules, w64, to_z, of_z}
use Rattle.std.specs.Prelude.{◌*ℤ◌}
use Rattle.std.proofs.lemmas.Int.{int_wrap-add_left, int_wrap-add_right, to_z_pos, wrapping_add_onto, wrapping_mul-bits}
use lib.IntN.{*ℤ_comm}
use Rattle.lambda_values.specs.Wrap.{wrap}
use Rattle.prefix_walks.specs.Batches.{total_below}
use Rattle.prefix_walks.proofs.RunFolds.{sum_folded}
use Rattle.prefix_walks.proofs.folding.sum_of_run.Goals as goal

pub returns : goal.returns
returns c =
    let v = c.args.run.first in
    let n = c.args.run.count in
    let few : n ≤ 2 ^ 62 = search rules in
    let first_fits : FitsSigned w64 v = search rules in
    let same : to_z w64 (of_z w64 v) ≡ v = search rules in
    let others_fit : FitsSigned w64 c.sum_below.result = search rules in
    let below : of_z w64 v < 2 ^ 64 = search rules in
    let firsts : to_z w64 (of_z w64 v * n % 2 ^ 64) ≡ wrap (pos n *ℤ v) =
    wrapping_mul-bits w64 (of_z w64 v) n below (omega (arith, few))
    ∙ ap wrap (ap₂ (λ (x y : ℤ). x *ℤ y) same (to_z_pos w64 n (omega (arith, few))) ∙ *ℤ_comm v (pos n)) in
    let both = wrapping_add_onto w64 (of_z w64 v * n % 2 ^ 64) c.sum_below.result (omega arith) others_fit in
    ap Some (both ∙ ap wrap (ap₂ (λ (x y : ℤ). x +ℤ y) firsts c.sum_below.ensures)
    ∙ int_wrap-add_left w64 (pos n *ℤ v) (wrap (pos (total_below n)))
    ∙ int_wrap-add_right w64 (pos n *ℤ v) (pos (total_below n)))
    ∙ sum_folded v n first_fits c.requires.some
