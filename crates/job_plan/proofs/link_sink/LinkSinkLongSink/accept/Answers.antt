use Rattle.std.proofs.Common.{◌≡◌, ℤ, List, [], ◌∷◌, ◌++◌, sym, subst, rules, w64, to_z, of_z}
use Rattle.job_plan.specs.Passages.{AbstractJunction, HasPassed}
use Rattle.job_plan.proofs.link_sink.LinkSinkLongSink.accept.Goals as goal

pub returns-in-More-clause-ok : goal.returns-in-More-clause-ok
returns-in-More-clause-ok g c = λ xs took.
    let h = g.S.LongSink.has_taken in
    let f = g.S.LongSink.flow in
    let k = g.K.LinkBrand in
    let p = c.args.self.now.passing in
    let q = c.pass.new.passing in
    let before = subst (λ (j : AbstractJunction). HasPassed h f k.begun j p xs) (sym took.0) took.1 in
    let o = c.args.item.origin in
    let fits : to_z w64 (of_z w64 c.args.item.value) ≡ c.args.item.value = search rules in
    let passed = c.in_ok-fed.ensures.all k.begun xs before in (
      took.0,
      subst (λ (v : ℤ). HasPassed h f k.begun k.junction q (xs ++ record { origin = o; value = v } ∷ [])) fits
          (subst (λ (j : AbstractJunction). HasPassed h f k.begun j q
          (xs ++ record { origin = o; value = to_z w64 (of_z w64 c.args.item.value) } ∷ [])) took.0 passed),
    )
