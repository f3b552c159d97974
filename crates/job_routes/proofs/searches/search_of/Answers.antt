use Rattle.std.proofs.Common.{ap}
use Rattle.slice_ops.specs.Slices.{slice_of}
use Rattle.job_routes.proofs.searches.search_of.Goals as goal

pub unreachable-requires : goal.unreachable-requires
unreachable-requires c = c.requires.other c.in-Limit.field-0 (ap slice_of c.in-Limit.is)
