use Rattle.std.proofs.Common.{◌≡◌, ◌+◌, pos, get_or, rules, arith, ap, take, FitsSigned, w64}
use Rattle.std.proofs.lemmas.Int.{ints, clamps}
use Rattle.std.proofs.lemmas.List.Elements.{All-get_or}
use Rattle.std.proofs.lemmas.List.Sums.{fold_more}
use Rattle.reduce_ops.specs.Reaches.{AbstractReach, IsSmall, no_reach, reach_of, reach_on}
use Rattle.reduce_ops.proofs.reaching.widest_of_small.Goals as goal

pub loop-value-preserved : goal.loop-value-preserved
loop-value-preserved c =
    let vs = c.args.values.now in
    let i = c.loop-value.value-index in
    let here = get_or vs i (pos 0) in
    let fits : FitsSigned w64 here = search rules in
    let small = All-get_or IsSmall vs i (pos 0) c.loop-value-test.true c.requires.small in
    let few = c.requires.few in
    let inside = c.loop-value-test.true in
    let before = c.loop-value.invariant in
    let up = c.max-rises.ensures.value in
    let q : AbstractReach = reach_of (take i vs) in
    let next : reach_of (take (i + 1) vs) ≡ reach_on q here = fold_more reach_on no_reach vs i (pos 0) inside in
    let total : (reach_of (take (i + 1) vs)).total ≡ (reach_on q here).total =
    ap (λ (r : AbstractReach). r.total) next in
    let least : (reach_of (take (i + 1) vs)).least ≡ (reach_on q here).least =
    ap (λ (r : AbstractReach). r.least) next in
    let greatest : (reach_of (take (i + 1) vs)).greatest ≡ (reach_on q here).greatest =
    ap (λ (r : AbstractReach). r.greatest) next in
    record {
      total = omega (arith, ints);
      least = omega (arith, ints, clamps);
      greatest = omega (arith, ints, clamps);
      falls = (omega (arith, ints, clamps), omega (arith, ints, clamps));
      rises = (omega (arith, ints, clamps), omega (arith, ints, clamps));
    }
