use Rattle.std.proofs.Common.{◌≡◌, ◌∙◌, ◌<◌, ◌≤◌, ℕ, ℤ, FitsSigned, bit_or, ap, arith, of_z, rules, subst, sym, to_z}
use Rattle.std.proofs.Common.{w64}
use Rattle.std.proofs.lemmas.Nat.{le_or_l, le_or_r}
use mathlib.Core.Logic.{dite}
use native.Mathlib.Decide.{ℕ_discrete}
use Rattle.batch_eval.specs.Lanes.{at, gap}
use Rattle.batch_eval.proofs.FitLemmas.{within_gap}
use Rattle.batch_eval.proofs.exact.lanes_within.Goals as goal

pub loop-i-preserved : goal.loop-i-preserved
loop-i-preserved g c = λ k below.
    let lane = c.loop-i.i in
    let least = to_z w64 (of_z w64 c.args.bounds.0) in
    let number : ℕ → ℤ = λ m. g.A.Lanes.number c.args.a (at c.args.out.now m) m in
    let got : to_z w64 (of_z w64 c.get.result) ≡ number lane = search rules in
    let fits : FitsSigned w64 (number lane) = search rules in
    let bits : ℕ = bit_or c.loop-i.bits c.gap-bits.result in
    let here : gap least (number lane) ≤ bits =
    omega (arith, c.gap-bits.ensures ∙ ap (gap least) got, le_or_r c.loop-i.bits c.gap-bits.result) in
    dite (ℕ_discrete k lane)
    (λ last. subst (λ (m : ℕ). (gap least (number m) ≤ bits) × FitsSigned w64 (number m)) (sym last) (here, fits))
    (λ other. let earlier : k < lane = omega (arith, below, other) in
    let before = c.loop-i.invariant k earlier in
    (omega (arith, before.0, le_or_l c.loop-i.bits c.gap-bits.result), before.1))

pub returns : goal.returns
returns g c = λ yes k below.
    let short : c.loop-i.bits ≤ c.gap.result = search rules in
    let least : to_z w64 (of_z w64 c.args.bounds.0) ≡ c.args.bounds.0 = search rules in
    let greatest : to_z w64 (of_z w64 c.args.bounds.1) ≡ c.args.bounds.1 = search rules in
    let so_far = c.loop-i.invariant k (omega (arith, below, c.loop-i-test.false)) in
    let most : gap c.args.bounds.0 c.args.bounds.1 ≡ c.gap.result =
    sym (c.gap.ensures ∙ ap (λ (z : ℤ). gap z (to_z w64 (of_z w64 c.args.bounds.1))) least
    ∙ ap (gap c.args.bounds.0) greatest) in
    let x = g.A.Lanes.number c.args.a (at c.args.out.now k) k in
    let near = subst (λ (z : ℤ). gap z x ≤ c.loop-i.bits) least so_far.0 in
    let fits_least : FitsSigned w64 c.args.bounds.0 = search rules in
    let fits_greatest : FitsSigned w64 c.args.bounds.1 = search rules in
    within_gap c.args.bounds.0 c.args.bounds.1 x fits_least fits_greatest so_far.1 c.requires.bounds
    (omega (arith, near, most, short))
