use Rattle.std.proofs.Common.{rules, arith, ◌<◌, ◌^◌}
use Rattle.std.proofs.lemmas.Int.{ints, clamps}
use Rattle.reduce_ops.proofs.reach.Reach.greatest_beside.Goals as goal

pub returns : goal.returns
returns c =
    let v = c.max.ensures.value in
    let w = c.max-greatest.ensures.value in
    let t = c.total.ensures in
    let u = c.total_beside.ensures in
    let f = c.from.ensures in
    let f2 = c.from-2.ensures in
    let a : c.args.self.below < 2 ^ 64 = search rules in
    let b : c.args.self.rise < 2 ^ 64 = search rules in
    let e : c.args.self.above < 2 ^ 64 = search rules in
    let d : c.args.right.below < 2 ^ 64 = search rules in
    let g : c.args.right.above < 2 ^ 64 = search rules in
    let h : c.args.right.rise < 2 ^ 64 = search rules in
    omega (arith, ints, clamps)
