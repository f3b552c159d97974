use Rattle.std.proofs.Common.{◌≡◌, ◌<◌, length}
use Rattle.job_runner.specs.Runs.{first_word}
use Rattle.job_runner.proofs.places.empty_places.Given as goal

abbrev pub invariant-loop-job : goal.invariant-loop-job
invariant-loop-job g l = record {
  made : length l.places.items ≡ l.job;
  first : l.first < 18446744073709551615 → l.first ≡ first_word g.S.JobLegs.run.last l.job;
}
