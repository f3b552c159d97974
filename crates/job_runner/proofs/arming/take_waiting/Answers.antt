use Rattle.std.proofs.Common.{◌<◌, ap, length, arith, Vec, Global}
use Rattle.completion_core.specs.Legal.{count}
use Rattle.job_runner.specs.declared.start.Waiting.{Waiting}
use Rattle.job_runner.specs.Waits.{nodes_in}
use Rattle.job_runner.proofs.ArmLemmas.{all_set}
use Rattle.job_runner.proofs.arming.take_waiting.Goals as goal

pub returns-then-job-len : goal.returns-then-job-len
returns-then-job-len c = λ i.
    let low : c.args.job < length c.args.all.now.items = omega (arith, c.if-job-len.true) in
    let s = all_set i c.args.all.now.items c.args.job c.index_mut.result.now c.replace.new.dest low
    c.index_mut.ensures.value in
    let z = ap (λ l. count i (nodes_in l.items)) c.replace.ensures.after in
    let y = ap (λ l. count i (nodes_in l)) c.new.ensures.items in
    let v = ap (λ l. count i (nodes_in l.items)) c.replace.ensures.value in
    let w = ap (λ (u : Vec Waiting Global). count i (nodes_in u.items)) c.index_mut.ensures.value in
    omega arith
