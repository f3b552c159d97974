use Rattle.std.proofs.Common.{◌≡◌, ◌-◌, ◌≤◌, ◌^◌, ℤ, Some, pos, ◌+ℤ◌, FitsSigned, ap, ap₂, ◌∙◌, arith, rules, w64, to_z}
use Rattle.std.proofs.Common.{of_z}
use Rattle.std.proofs.lemmas.Int.{to_z-of_z, to_z_pos}
use Rattle.prefix_walks.proofs.RunFolds.{greatest_or_last, least_or_first}
use Rattle.prefix_walks.proofs.folding.fold_run.Goals as goal

pub returns-in-Min : goal.returns-in-Min
returns-in-Min c =
    let run = c.args.run in
    let same : to_z w64 (of_z w64 run.first) ≡ run.first = search rules in
    ap Some same ∙ least_or_first c.args.op run.first run.count c.requires.some c.in-Min.is

pub returns-in-Max : goal.returns-in-Max
returns-in-Max c =
    let run = c.args.run in
    let some = c.requires.some in
    let few : run.count ≤ 2 ^ 62 = search rules in
    let last : ℤ = run.first +ℤ pos (run.count - 1) in
    let fits : FitsSigned w64 last = run.in_range (run.count - 1) (omega (arith, some)) in
    let same : to_z w64 (of_z w64 run.first) ≡ run.first = search rules in
    let is = ap₂ (λ (x y : ℤ). x +ℤ y) same (to_z_pos w64 (run.count - 1) (omega (arith, few))) in
    ap Some (ap (λ (z : ℤ). to_z w64 (of_z w64 z)) is ∙ to_z-of_z w64 last fits)
    ∙ greatest_or_last c.args.op run.first run.count some c.in-Max.is
