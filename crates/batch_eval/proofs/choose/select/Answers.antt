use Rattle.std.proofs.Common.{◌≡◌, ◌∙◌, ◌<◌, ℕ, ℤ, length, slice_set, ◌≢◌, if◌then◌else◌, ap, arith, of_z}
use Rattle.std.proofs.Common.{pos, rules, subst}
use Rattle.std.proofs.Common.{sym, to_z, w64}
use Rattle.std.proofs.lemmas.List.{get_or-set_same, get_or-set_other}
use mathlib.Core.Logic.{dite}
use native.Mathlib.Decide.{ℕ_discrete}
use Rattle.batch_eval.specs.Batches.{holds}
use Rattle.batch_eval.specs.Lanes.{at}
use Rattle.batch_eval.proofs.choose.select.Goals as goal

pub loop-i-preserved : goal.loop-i-preserved
loop-i-preserved g c =
    let i = c.loop-i.i in
    let out = c.loop-i.out in
    let v = to_z w64 (of_z w64 c.one_of.result) in
    let value : ℕ → ℤ = λ k. if holds c.args.set (at c.args.xs.now k) then
    g.A.Lanes.number c.args.a (at c.args.out.now k) k else g.B.Lanes.number c.args.b (at c.args.out.now k) k in
    let within : i < length out = search rules in
    let old : at out i ≡ at c.args.out.now i = c.loop-i.invariant.1 i (omega arith) in
    let read : to_z w64 (of_z w64 (at out i)) ≡ at out i = search rules in
    let tested : to_z w64 (of_z w64 (at c.args.xs.now i)) ≡ at c.args.xs.now i = search rules in
    let one : to_z w64 (of_z w64 c.get-one.result) ≡ c.get-one.result = search rules in
    let other : to_z w64 (of_z w64 c.get-other.result) ≡ c.get-other.result = search rules in
    let passes = c.holds.ensures ∙ ap (holds c.args.set) tested in
    let first = one ∙ c.get-one.ensures ∙ ap (λ z. g.A.Lanes.number c.args.a z i) (read ∙ old) in
    let second = other ∙ c.get-other.ensures ∙ ap (λ z. g.B.Lanes.number c.args.b z i) (read ∙ old) in
    let put : v ≡ c.one_of.result = search rules in
    let here : v ≡ value i = put ∙ c.one_of.ensures ∙ (λ j. if passes j then first j else second j) in (
      λ k below. dite (ℕ_discrete k i)
          (λ last. subst (λ (m : ℕ). at (slice_set out i v) m ≡ value m) (sym last)
          (get_or-set_same out i v (pos 0) within ∙ here))
          (λ apart. get_or-set_other out i k v (pos 0) apart ∙ c.loop-i.invariant.0 k (omega (arith, below, apart))),
      λ k least. let apart : k ≢ i = λ is. omega (arith, is, least) in
          get_or-set_other out i k v (pos 0) apart ∙ c.loop-i.invariant.1 k (omega (arith, least)),
    )
