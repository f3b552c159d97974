use Rattle.std.proofs.Common.{◌-◌}
use Rattle.completer_tree.specs.Trees.{table_id_of}
use Rattle.job_runner.specs.Tasks.{kept_at, node_at}
use Rattle.job_runner.specs.Runs.{stop_id_of}
use Rattle.test_engine.proofs.driven.found.Given as goal

abbrev pub ghosts-answers_found : goal.ghosts-answers_found
ghosts-answers_found g a = record {
  table = table_id_of a.opened.counts;
  jobs = g.S.JobLegs.run.jobs;
  start = λ j. node_at a.opened.starts.items (g.S.JobLegs.run.jobs - 1 - j);
  keeps = λ j. kept_at a.opened.starts.items (g.S.JobLegs.run.jobs - 1 - j);
  last = g.S.JobLegs.run.last;
  size = g.S.JobLegs.run.size;
  stops = stop_id_of a.opened.stops;
}
