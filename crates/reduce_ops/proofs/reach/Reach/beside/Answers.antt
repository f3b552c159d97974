use Rattle.std.proofs.Common.{rules, arith, ◌<◌, ◌^◌, ◌∙◌, subst, FitsSigned}
use Rattle.std.proofs.lemmas.Int.{ints, clamps, to_z-of_z}
use mir.Syntax.{w128}
use Rattle.reduce_ops.specs.Reaches.{AbstractReach, IsReach, reach_in, reach_beside}
use Rattle.reduce_ops.proofs.ExactLemmas.{same_reach}
use Rattle.reduce_ops.proofs.reach.Reach.beside.Goals as goal

pub of_sums-requires-clause-least : goal.of_sums-requires-clause-least
of_sums-requires-clause-least c =
    let l = c.least_beside.ensures in
    let a : c.args.self.below < 2 ^ 64 = search rules in
    let b : c.args.self.rise < 2 ^ 64 = search rules in
    let d : c.args.right.below < 2 ^ 64 = search rules in
    (omega (arith, ints, clamps), omega (arith, ints, clamps))

pub of_sums-requires-clause-greatest : goal.of_sums-requires-clause-greatest
of_sums-requires-clause-greatest c =
    let l = c.greatest_beside.ensures in
    let a : c.args.self.below < 2 ^ 64 = search rules in
    let b : c.args.self.rise < 2 ^ 64 = search rules in
    let e : c.args.self.above < 2 ^ 64 = search rules in
    let d : c.args.right.below < 2 ^ 64 = search rules in
    let g : c.args.right.above < 2 ^ 64 = search rules in
    let h : c.args.right.rise < 2 ^ 64 = search rules in
    (omega (arith, ints, clamps), omega (arith, ints, clamps))

pub of_sums-requires-clause-total : goal.of_sums-requires-clause-total
of_sums-requires-clause-total c =
    let k = c.least_beside.ensures in
    let l = c.greatest_beside.ensures in
    let m = c.total_beside.ensures in
    let a : c.args.self.below < 2 ^ 64 = search rules in
    let b : c.args.self.rise < 2 ^ 64 = search rules in
    let e : c.args.self.above < 2 ^ 64 = search rules in
    let d : c.args.right.below < 2 ^ 64 = search rules in
    let g : c.args.right.above < 2 ^ 64 = search rules in
    let h : c.args.right.rise < 2 ^ 64 = search rules in
    (omega (arith, ints, clamps), omega (arith, ints, clamps))

pub returns : goal.returns
returns c =
    let q : AbstractReach = reach_beside (reach_in c.args.self) (reach_in c.args.right) in
    let t : FitsSigned w128 c.total_beside.result = search rules in
    let l : FitsSigned w128 c.least_beside.result = search rules in
    let g : FitsSigned w128 c.greatest_beside.result = search rules in
    subst (λ (s : AbstractReach). IsReach c.of_sums.result s)
    (same_reach _ q.total _ q.least _ q.greatest
    (to_z-of_z w128 c.total_beside.result t ∙ c.total_beside.ensures)
    (to_z-of_z w128 c.least_beside.result l ∙ c.least_beside.ensures)
    (to_z-of_z w128 c.greatest_beside.result g ∙ c.greatest_beside.ensures)) c.of_sums.ensures
