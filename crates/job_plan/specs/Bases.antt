-- Condition: the whole walk whose positions a leg goes over, as the program keeps it.
use Rattle.std.specs.Prelude.{List, Option, Some, None}
use Rattle.trace.specs.Cover.{placed, too_long}
use Rattle.trace.specs.Trace.{Trace, trace}
use Rattle.trace.specs.declared.item.End.TheVariants as end
use Rattle.job_language.specs.Jobs.{sources_of}
use Rattle.job_meaning.specs.Walks.{source_walk, values_of}
use Rattle.job_routes.specs.Legs.{windowed}
use Rattle.prefix_walks.specs.declared.window.Window.{Window}
use Rattle.job_language.specs.declared.job.PlainSource.{PlainSource}
use Rattle.job_plan.specs.declared.source.Base.{Base}
use Rattle.job_plan.specs.declared.source.Base.TheVariants as base

-- positions of sources, or a walk without them
abbrev pub given_in : Option Window → List PlainSource → Trace → Trace
given_in None ss t = t
given_in (Some w) ss t = windowed w.from w.to (source_walk (sources_of ss))

abbrev pub base_walk : Base → Trace
base_walk (base.Plain p) = trace (placed 0 (values_of (sources_of p.sources.now))) end.Done
base_walk (base.Put p) = trace (placed 0 (values_of (sources_of p.sources.now))) end.Done
base_walk base.TooLong = too_long
base_walk (base.Given w) = w.now
