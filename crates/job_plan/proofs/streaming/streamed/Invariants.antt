use Rattle.job_routes.specs.Legs.{number_after}
use Rattle.job_plan.proofs.streaming.streamed.Given as goal

abbrev pub ghosts-nested : goal.ghosts-nested
ghosts-nested a = record {
  last = a.leg.now.last.end;
  stage = number_after a.leg.now.last.stages;
  env = a.walked.env.now;
  begun = a.none;
}
