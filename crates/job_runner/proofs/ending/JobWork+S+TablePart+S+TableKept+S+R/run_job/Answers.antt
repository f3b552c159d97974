use Rattle.std.proofs.Common.{◌∙◌, sym}
use Rattle.job_runner.proofs.ending.JobWork+S+TablePart+S+TableKept+S+R.run_job.Goals as goal

pub begin-first-requires-clause-size : goal.begin-first-requires-clause-size
begin-first-requires-clause-size g c = c.in-Some.ensures ∙ sym (c.args.self.now.planned.2 c.args.begun.job 0)
