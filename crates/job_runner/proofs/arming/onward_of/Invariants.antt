use Rattle.std.proofs.Common.{◌≡◌, take}
use Rattle.job_runner.specs.Waits.{nodes_in}
use Rattle.job_runner.proofs.arming.onward_of.Given as goal

abbrev pub invariant-loop-other : goal.invariant-loop-other
invariant-loop-other l = l.onward.items ≡ nodes_in (take l.other-index l.waiting)
