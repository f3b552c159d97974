use Rattle.std.proofs.Common.{◌≡◌, ◌+◌, pos, get_or, rules, sym, subst, ap, ◌∙◌, Option, None, ℤ, take, FitsSigned, w64}
use Rattle.std.proofs.Common.{to_z, of_z}
use Rattle.std.proofs.lemmas.Int.{to_z-of_z}
use Rattle.std.proofs.lemmas.List.Sums.{fold_more}
use Rattle.reduce_ops.specs.declared.reach.Reach.{Reach}
use Rattle.reduce_ops.specs.Reaches.{AbstractReach, IsReach, IsWide, no_reach, reach_in, reach_of, reach_on}
use Rattle.reduce_ops.proofs.ExactLemmas.{wide_front}
use Rattle.reduce_ops.proofs.reaching.reach_of_any.Goals as goal

pub returns-in_err-reach : goal.returns-in_err-reach
returns-in_err-reach c =
    let vs = c.args.values.now in
    let i = c.loop-value.value-index in
    let here = get_or vs i (pos 0) in
    let fits : FitsSigned w64 here = search rules in
    let none : c.on.result ≡ None = c.in_err-reach.was in
    let wide = subst (λ (o : Option Reach). IsReach o
    (reach_on (reach_in c.loop-value.reach) (to_z w64 (of_z w64 here)))) none c.on.ensures in
    let next : reach_on (reach_in c.loop-value.reach) here ≡ reach_of (take (i + 1) vs) =
    ap (λ (q : AbstractReach). reach_on q here) c.loop-value.invariant
    ∙ sym (fold_more reach_on no_reach vs i (pos 0) c.loop-value-test.true) in
    subst (λ (o : Option Reach). IsReach o (reach_of vs)) (sym c.from_residual.ensures)
    (wide_front vs (i + 1) (subst IsWide next
    (subst (λ (z : ℤ). IsWide (reach_on (reach_in c.loop-value.reach) z)) (to_z-of_z w64 here fits) wide)))
