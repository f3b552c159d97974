-- Condition: what is kept of a walk.
use Rattle.std.specs.Prelude.{[]}
use Rattle.trace.specs.Trace.{Trace, trace}
use Rattle.sort_ops.specs.Ranges.{ordered}
use Rattle.prefix_walks.specs.declared.kept.Kept.{Kept}
use Rattle.prefix_walks.specs.declared.kept.Kept.TheVariants as kept

-- the walk that it describes
abbrev pub kept_walk : Kept → Trace
kept_walk (kept.Ended e) = trace [] e
kept_walk (kept.Scanned t) = t
kept_walk (kept.Items xs e) = trace xs.items e
kept_walk (kept.Sorted r e) = trace (ordered r.count r.runs.items) e
