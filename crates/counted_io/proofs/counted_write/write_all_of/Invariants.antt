use Rattle.std.proofs.Common.{length, take, ◌-◌, ◌≤◌}
use Rattle.std.specs.Io.KnownBytes.{Appends}
use Rattle.counted_io.proofs.counted_write.write_all_of.Given as goal

-- what went out so far are the first bytes, and nothing else
abbrev pub invariant-loop-written : goal.invariant-loop-written
invariant-loop-written g l =
    (l.written ≤ length l.bytes)
    × Appends (g.W.CountedWrite.contents l.initial.writer) (g.W.CountedWrite.contents l.writer) (take l.written l.bytes)
    × (g.W.CountedWrite.failures l.initial.writer ≤ g.W.CountedWrite.failures l.writer)

abbrev pub decreases-loop-written : goal.decreases-loop-written
decreases-loop-written g l = length l.bytes - l.written
