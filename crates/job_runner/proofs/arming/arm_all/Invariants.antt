use Rattle.std.proofs.Common.{◌≡◌, ◌-◌, length}
use Rattle.pending_count.specs.Seats.{view_of, IsSeatOf}
use Rattle.job_runner.specs.Tasks.{HasStarts, all_waiting}
use Rattle.job_runner.proofs.arming.arm_all.Given as goal

abbrev pub invariant-loop-done : goal.invariant-loop-done
invariant-loop-done g l = IsSeatOf l.counts l.seat × (length l.armed.starts.items ≡ l.done)
    × HasStarts (l.count - l.done) l.armed.starts.items (all_waiting l.armed.waiting.items) (view_of l.seat)
