use Rattle.std.proofs.Common.{◌≡◌, drop}
use Rattle.trace.specs.Stops.{shift, stop_at}
use Rattle.trace.proofs.chunk.searching.stop_in.Given as goal

abbrev pub invariant-loop-at : goal.invariant-loop-at
invariant-loop-at g l = stop_at (g.S.EndTest.stops l.stop) l.items
    ≡ shift l.at (stop_at (g.S.EndTest.stops l.stop) (drop l.at l.items))
