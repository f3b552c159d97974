use Rattle.std.proofs.Common.{◌<◌, ◌≤◌}
use Rattle.std.specs.Io.KnownBytes.{Keeps}
use Rattle.counted_io.specs.FailureCounts.{HasRisen}
use Rattle.counted_io.proofs.counted_write.write_retrying.Given as goal

-- every write so far failed, and nothing went out
abbrev pub invariant-loop : goal.invariant-loop
invariant-loop g l =
    let failures = g.W.CountedWrite.failures in
    Keeps (g.W.CountedWrite.contents l.initial.writer) (g.W.CountedWrite.contents l.writer)
    × (failures l.initial.writer ≤ failures l.writer)
    × (0 < l.counter → HasRisen (failures l.initial.writer) (failures l.writer))
