use Rattle.std.proofs.Common.{rules, arith, ◌<◌, ◌^◌, subst}
use Rattle.std.proofs.lemmas.Int.{ints, clamps}
use Rattle.reduce_ops.specs.Reaches.{AbstractReach, IsReach, reach_in, reach_on}
use Rattle.reduce_ops.proofs.ExactLemmas.{same_reach}
use Rattle.reduce_ops.proofs.reach.Reach.on.Goals as goal

pub of_sums-requires-clause-least : goal.of_sums-requires-clause-least
of_sums-requires-clause-least c =
    let v = c.min-least.ensures.value in
    let t = c.total.ensures in
    let f = c.from.ensures in
    let f2 = c.from-2.ensures in
    let b : c.args.self.below < 2 ^ 64 = search rules in
    let r : c.args.self.rise < 2 ^ 64 = search rules in
    (omega (arith, ints, clamps), omega (arith, ints, clamps))

pub of_sums-requires-clause-greatest : goal.of_sums-requires-clause-greatest
of_sums-requires-clause-greatest c =
    let v = c.max-greatest.ensures.value in
    let t = c.total.ensures in
    let f = c.from.ensures in
    let f3 = c.from-3.ensures in
    let b : c.args.self.below < 2 ^ 64 = search rules in
    let a : c.args.self.above < 2 ^ 64 = search rules in
    let r : c.args.self.rise < 2 ^ 64 = search rules in
    (omega (arith, ints, clamps), omega (arith, ints, clamps))

pub returns : goal.returns
returns c =
    let v = c.min-least.ensures.value in
    let w = c.max-greatest.ensures.value in
    let t = c.total.ensures in
    let f = c.from.ensures in
    let f2 = c.from-2.ensures in
    let f3 = c.from-3.ensures in
    let b : c.args.self.below < 2 ^ 64 = search rules in
    let a : c.args.self.above < 2 ^ 64 = search rules in
    let r : c.args.self.rise < 2 ^ 64 = search rules in
    let q : AbstractReach = reach_on (reach_in c.args.self) c.args.value in
    subst (λ (s : AbstractReach). IsReach c.of_sums.result s)
    (same_reach _ q.total _ q.least _ q.greatest (omega (arith, ints, clamps)) (omega (arith, ints, clamps))
    (omega (arith, ints, clamps))) c.of_sums.ensures
