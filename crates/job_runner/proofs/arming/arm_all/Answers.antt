use Rattle.std.proofs.Common.{◌≡◌, ◌+◌, ◌-◌, subst, arith}
use Rattle.pending_count.specs.Seats.{view_of}
use Rattle.job_runner.specs.Tasks.{HasStarts, all_waiting}
use Rattle.job_runner.proofs.arming.arm_all.Goals as goal

pub loop-done-preserved : goal.loop-done-preserved
loop-done-preserved g c =
    let table = rw c.in-Some.is at c.in_ok-later.ensures.table in
    let counted = rw c.in-Some.is at c.in_ok-later.ensures.count in
    let has = rw c.in-Some.is at c.in_ok-later.ensures.has in
    let n = c.loop-done.invariant.1 in
    let armed = c.arm_one.new.armed in
    let job : c.jobs-count.result - 1 - c.loop-done.done ≡ c.jobs-count.result - (c.loop-done.done + 1) =
    omega arith in (
      table,
      omega arith,
      subst (λ k. HasStarts k armed.starts.items (all_waiting armed.waiting.items) (view_of c.in-Some.later)) job has,
    )
