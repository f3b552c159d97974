use Rattle.std.proofs.Common.{◌+◌, ◌*◌, ◌∷◌, ◌++◌, [], drop}
use Rattle.job_runner.specs.Tasks.{HasKept}
use Rattle.job_runner.specs.Waits.{nodes_in}
use Rattle.job_runner.proofs.ending.JobWork+S+TablePart+S+TableKept+S+R.+over.Given as goal

abbrev pub decreases-end_job : goal.decreases-end_job
decreases-end_job g l = 3 * l.depth + 1

abbrev pub decreases-hand_over : goal.decreases-hand_over
decreases-hand_over g l = 3 * l.depth

abbrev pub decreases-take : goal.decreases-take
decreases-take g l = 3 * l.depth + 2

abbrev pub invariant-end_job-loop-at : goal.invariant-end_job-loop-at
invariant-end_job-loop-at g l = HasKept g.R.RunBrand.table g.R.RunBrand.jobs g.R.RunBrand.start g.R.RunBrand.keeps
    (nodes_in (drop l.at l.waiting) ++ 0 ∷ []) l.seat
