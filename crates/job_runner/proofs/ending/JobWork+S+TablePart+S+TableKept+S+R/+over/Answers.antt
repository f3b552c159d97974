use Rattle.job_runner.proofs.SeatLemmas.{ends_kept}
use Rattle.job_runner.proofs.ending.JobWork+S+TablePart+S+TableKept+S+R.+over.Goals as goal

pub end_job-settle-requires-clause-have : goal.end_job-settle-requires-clause-have
end_job-settle-requires-clause-have g t c = ends_kept _ c.loop-at.seat c.loop-at.invariant
