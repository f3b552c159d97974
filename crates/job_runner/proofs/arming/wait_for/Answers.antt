use Rattle.std.proofs.Common.{◌<◌, ◌∷◌, [], ap, length, arith}
use Rattle.completion_core.specs.Legal.{count}
use Rattle.pending_count.proofs.SumLemmas.{one_at, total-append}
use Rattle.job_runner.specs.Waits.{nodes_in}
use Rattle.job_runner.proofs.ArmLemmas.{all_set, nodes_snoc}
use Rattle.job_runner.proofs.arming.wait_for.Goals as goal

pub returns-in_ok-push : goal.returns-in_ok-push
returns-in_ok-push c = λ i.
    let low : c.args.named < length c.args.all.now.items = omega (arith, c.if-named-len.true) in
    let s = all_set i c.args.all.now.items c.args.named c.index_mut.result.now c.push.new.self low
    c.index_mut.ensures.value in
    let z = ap (λ l. count i (nodes_in l)) c.in_ok-push.ensures.items in
    let v = c.index_mut.result.now in
    let y = ap (count i) (nodes_snoc v.items c.args.job) in
    let t = total-append (one_at i) (nodes_in v.items) (c.args.job.node ∷ []) in
    omega arith
