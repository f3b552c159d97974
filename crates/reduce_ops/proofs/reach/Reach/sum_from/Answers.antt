use Rattle.std.proofs.Common.{rules, arith, ◌<◌, ◌^◌}
use Rattle.std.proofs.lemmas.Int.{ints}
use Rattle.reduce_ops.proofs.reach.Reach.sum_from.Goals.{then-least-ltminus9223372036854775808-via-then-least-ltminus9223372036854775808}
use Rattle.reduce_ops.proofs.reach.Reach.sum_from.Goals.{then-least-ltminus9223372036854775808-via-else-least-ltminus9223372036854775808+then-greatest-gt9223372036854775807}
use Rattle.reduce_ops.proofs.reach.Reach.sum_from.Goals.{then-least-ltminus9223372036854775808-via-else-least-ltminus9223372036854775808+else-greatest-gt9223372036854775807+then-total-gt9223372036854775807}
use Rattle.reduce_ops.proofs.ExactLemmas.{long_fits}
use Rattle.reduce_ops.proofs.reach.Reach.sum_from.Goals as goal

pub returns-then-least-ltminus9223372036854775808 : goal.returns-then-least-ltminus9223372036854775808
returns-then-least-ltminus9223372036854775808 c = λ ordered holds.
    let t = c.total.ensures in
    let f = c.from-first.ensures in
    let f2 = c.from.ensures in
    let f3 = c.from-2.ensures in
    let low = holds.0 in
    let high = holds.1 in
    let a : c.args.self.above < 2 ^ 64 = search rules in
    let b : c.args.self.below < 2 ^ 64 = search rules in
    let r : c.args.self.rise < 2 ^ 64 = search rules in
    elim c.then-least-ltminus9223372036854775808.branch [
      | then-least-ltminus9223372036854775808-via-then-least-ltminus9223372036854775808 w ↦ let k =
          w.if-least-ltminus9223372036854775808.true in omega (arith, ints)
      | then-least-ltminus9223372036854775808-via-else-least-ltminus9223372036854775808+then-greatest-gt9223372036854775807
          w ↦ let k = w.if-greatest-gt9223372036854775807.true in omega (arith, ints)
      | then-least-ltminus9223372036854775808-via-else-least-ltminus9223372036854775808+else-greatest-gt9223372036854775807+then-total-gt9223372036854775807
          w ↦ let k = w.if-total-gt9223372036854775807.true in omega (arith, ints)
    ]

pub overflow_cast-result : goal.overflow_cast-result
overflow_cast-result c =
    let t = c.total.ensures in
    let f = c.from-first.ensures in
    let f2 = c.from.ensures in
    let low = c.if-least-ltminus9223372036854775808.false in
    let high = c.if-total-gt9223372036854775807.false in
    let b : c.args.self.below < 2 ^ 64 = search rules in
    let r : c.args.self.rise < 2 ^ 64 = search rules in
    long_fits _ (omega (arith, ints)) (omega (arith, ints))

pub returns : goal.returns
returns c =
    let t = c.total.ensures in
    let f = c.from-first.ensures in
    let f2 = c.from.ensures in
    let f3 = c.from-2.ensures in
    let low = c.if-least-ltminus9223372036854775808.false in
    let high = c.if-greatest-gt9223372036854775807.false in
    let last = c.if-total-gt9223372036854775807.false in
    let a : c.args.self.above < 2 ^ 64 = search rules in
    let b : c.args.self.below < 2 ^ 64 = search rules in
    let r : c.args.self.rise < 2 ^ 64 = search rules in
    (omega (arith, ints), (omega (arith, ints), omega (arith, ints)))
