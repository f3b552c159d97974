use Rattle.job_routes.specs.Legs.{number_after}
use Rattle.job_plan.proofs.leaves.leaf_until.Given as goal

abbrev pub ghosts-part_until : goal.ghosts-part_until
ghosts-part_until g a = record {
  last = a.segment.now.end;
  stage = number_after a.segment.now.stages;
  env = a.walked.env.now;
  begun = a.part;
}
