use Rattle.std.proofs.Common.{arith}
use Rattle.spliterator.proofs.PartLemmas.{part_size}
use Rattle.spliterator.proofs.concat_split.total_size.Goals as goal

pub returns-then-size-total-clause-none : goal.returns-then-size-total-clause-none
returns-then-size-total-clause-none c =
    let next = part_size c.args.parts.now c.loop-part.part-index c.part-item.result c.loop-part-test.true
    c.part-item.is in
    let whole = c.loop-part.invariant.1 in
    let size = c.exact_size-size.ensures in
    let more = c.if-size-total.true in
    omega arith

pub loop-part-preserved : goal.loop-part-preserved
loop-part-preserved c =
    let next = part_size c.args.parts.now c.loop-part.part-index c.part-item.result c.loop-part-test.true
    c.part-item.is in
    let few = c.loop-part.invariant.0 in
    let whole = c.loop-part.invariant.1 in
    let size = c.exact_size-size.ensures in
    let fits = c.if-size-total.false in
    (omega arith, omega arith)
