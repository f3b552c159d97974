use Rattle.std.proofs.Common.{rules, arith, ◌<◌, ◌^◌}
use Rattle.std.proofs.lemmas.Int.{ints}
use Rattle.reduce_ops.proofs.reach.Reach.covers.Goals as goal

pub returns-then-least-from : goal.returns-then-least-from
returns-then-least-from c = λ yes.
    let t = c.total-total.ensures in
    let f = c.from.ensures in
    let f2 = c.from-2.ensures in
    let f3 = c.from-3.ensures in
    let f4 = c.from-then-least-from.ensures in
    let low = c.if-least-from.true in
    let a : c.args.self.below < 2 ^ 64 = search rules in
    let b : c.args.self.rise < 2 ^ 64 = search rules in
    let d : c.args.self.above < 2 ^ 64 = search rules in
    let e : c.args.later.below < 2 ^ 64 = search rules in
    let g : c.args.later.above < 2 ^ 64 = search rules in
    (omega (arith, ints), omega (arith, ints))
