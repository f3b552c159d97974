use Rattle.std.proofs.Common.{ap, arith}
use Rattle.completion_core.specs.Legal.{count}
use Rattle.job_runner.specs.Tasks.{all_waiting}
use Rattle.job_runner.specs.Waits.{nodes_in}
use Rattle.job_runner.proofs.ArmLemmas.{all_snoc}
use Rattle.job_runner.proofs.arming.none_waiting.Goals as goal

pub loop-job-preserved : goal.loop-job-preserved
loop-job-preserved c = λ i.
    let e = ap (λ xs. count i (all_waiting xs)) c.in_ok-push.ensures.items in
    let s = all_snoc i c.loop-job.all.items c.new.result in
    let h = c.loop-job.invariant i in
    let z = ap (λ l. count i (nodes_in l)) c.new.ensures.items in
    omega arith
