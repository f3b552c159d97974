use Rattle.std.proofs.Common.{pos, get_or, rules, arith, sym, ap, ◌∙◌, FitsSigned, w64, to_z}
use Rattle.std.proofs.lemmas.Int.{ints, clamps}
use Rattle.std.proofs.lemmas.List.Elements.{All-get_or}
use Rattle.std.proofs.lemmas.List.Sums.{fold_more}
use Rattle.reduce_ops.specs.Reaches.{AbstractReach, IsSmall, no_reach, reach_on}
use Rattle.reduce_ops.proofs.ExactLemmas.{reach, same_reach}
use Rattle.reduce_ops.proofs.reaching.reach_of_small.Goals as goal

pub loop-value-preserved : goal.loop-value-preserved
loop-value-preserved c =
    let vs = c.args.values.now in
    let i = c.loop-value.value-index in
    let here = get_or vs i (pos 0) in
    let fits : FitsSigned w64 here = search rules in
    let small = All-get_or IsSmall vs i (pos 0) c.loop-value-test.true c.requires.small in
    let few = c.requires.few in
    let inside = c.loop-value-test.true in
    let before = c.loop-value.invariant in
    let q : AbstractReach = reach_on (reach (to_z w64 c.loop-value.total-bits) (to_z w64 c.loop-value.least-bits)
    (to_z w64 c.loop-value.greatest-bits)) here in
    let low = c.min-least.ensures.value in
    let high = c.max-greatest.ensures.value in (
      same_reach _ q.total _ q.least _ q.greatest (omega (arith, ints)) (omega (arith, ints, clamps))
          (omega (arith, ints, clamps))
          ∙ ap (λ (r : AbstractReach). reach_on r here) before.0
          ∙ sym (fold_more reach_on no_reach vs i (pos 0) inside),
      omega (arith, ints, clamps),
      omega (arith, ints, clamps),
      omega (arith, ints, clamps),
      omega (arith, ints, clamps),
      omega (arith, ints, clamps),
      omega (arith, ints, clamps),
    )
