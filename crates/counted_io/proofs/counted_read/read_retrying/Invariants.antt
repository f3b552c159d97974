use Rattle.std.proofs.Common.{◌≡◌, ◌<◌, ◌≤◌, length}
use Rattle.std.specs.Io.KnownBytes.{Keeps}
use Rattle.counted_io.specs.FailureCounts.{HasRisen}
use Rattle.counted_io.proofs.counted_read.read_retrying.Given as goal

-- every read so far failed and gave nothing
abbrev pub invariant-loop : goal.invariant-loop
invariant-loop g l =
    let failures = g.R.CountedRead.failures in
    (length l.buf ≡ length l.initial.buf)
    × Keeps (g.R.CountedRead.remaining l.initial.reader) (g.R.CountedRead.remaining l.reader)
    × (failures l.initial.reader ≤ failures l.reader)
    × (0 < l.counter → HasRisen (failures l.initial.reader) (failures l.reader))
