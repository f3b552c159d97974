use Rattle.slice_ops.specs.Slices.{slice_of}
use Rattle.job_plan.specs.Passages.{junction_of}
use Rattle.job_routes.specs.Legs.{number_after}
use Rattle.job_plan.proofs.nest.InnerNest.feed.Given as goal

abbrev pub ghosts-feed_link : goal.ghosts-feed_link
ghosts-feed_link g a = record {
  begun = slice_of a.last.link.now.slice;
  junction = junction_of (number_after a.last.link.now.stages) a.last.next;
}
