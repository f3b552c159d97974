use Rattle.std.proofs.Common.{arith}
use Rattle.counted_io.proofs.SentBytes.{sent_more}
use Rattle.counted_io.proofs.counted_write.write_all_of.Goals as goal

pub loop-written-preserved : goal.loop-written-preserved
loop-written-preserved g c =
    let before = c.loop-written.invariant in
    let more = c.in-Some.ensures in
    let sent = sent_more _ _ _ c.args.bytes.now c.loop-written.written c.in-Some.count c.loop-written-test.true
    more.bound.1 before.1 more.some in
    (sent.0, sent.1, omega (arith, more.counts, before.2))
