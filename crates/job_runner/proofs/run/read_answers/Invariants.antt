use Rattle.std.proofs.Common.{◌≡◌, length}
use Rattle.job_runner.specs.Runs.{AreAnswers}
use Rattle.job_runner.proofs.run.read_answers.Given as goal

abbrev pub invariant-loop-job : goal.invariant-loop-job
invariant-loop-job g l = (length l.answers.items ≡ l.job) × AreAnswers g.S.JobLegs.run.is_answer 0 l.answers.items
