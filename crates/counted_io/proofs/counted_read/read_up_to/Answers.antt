use Rattle.std.proofs.Common.{arith}
use Rattle.counted_io.proofs.GivenBytes.{HasGiven-filled}
use Rattle.counted_io.proofs.counted_read.read_up_to.Goals as goal

pub loop-filled-preserved : goal.loop-filled-preserved
loop-filled-preserved g c =
    let read = c.in_ok-count.ensures in
    let before = c.loop-filled.invariant in (
      read.fits,
      HasGiven-filled _ _ _ _ c.loop-filled.bytes.items c.read_more.new.bytes.items c.loop-filled.filled
          c.in_ok-count.count read.front before.1 read.ok,
      omega (arith, read.counts, before.2),
    )
