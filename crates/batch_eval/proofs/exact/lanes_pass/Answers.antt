use Rattle.std.proofs.Common.{◌≡◌, ◌∙◌, ◌<◌, ℕ, IsTrue, ap, arith, of_z, pos, rules, subst, sym, to_z, w64}
use mathlib.Core.Logic.{dite}
use native.Mathlib.Decide.{ℕ_discrete}
use Rattle.batch_eval.specs.Batches.{holds}
use Rattle.batch_eval.proofs.exact.lanes_pass.Goals as goal

pub loop-i-preserved : goal.loop-i-preserved
loop-i-preserved g c = λ yes k below.
    let lane = c.loop-i.i in
    let got : to_z w64 (of_z w64 c.get.result) ≡ c.get.result = search rules in
    let here : c.holds.result ≡ holds c.args.test (g.A.Lanes.number c.args.a (pos 0) lane) =
    c.holds.ensures ∙ ap (holds c.args.test) (got ∙ c.get.ensures) in
    let before : IsTrue c.loop-i.same = search rules in
    let wanted : c.holds.result ≡ c.args.wanted = search rules in
    dite (ℕ_discrete k lane)
    (λ last. subst (λ (m : ℕ). holds c.args.test (g.A.Lanes.number c.args.a (pos 0) m) ≡ c.args.wanted) (sym last)
    (sym here ∙ wanted))
    (λ other. let earlier : k < lane = omega (arith, below, other) in c.loop-i.invariant before k earlier)

pub returns : goal.returns
returns g c = λ yes k below. c.loop-i.invariant yes k (omega (arith, below, c.loop-i-test.false, c.loop-i.auto.i-end))
