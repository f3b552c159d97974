use Rattle.std.proofs.Common.{◌≡◌, ◌*◌, ◌≤◌, drop, length}
use Rattle.report.specs.AnswerForms.{further}
use Rattle.report.specs.Numbers.{separator_bytes}
use Rattle.report.proofs.numbers.put_further.Given as goal

-- the text from `start` on is the text of the numbers from `left` on, and the others have room before it
abbrev pub invariant-loop-left : goal.invariant-loop-left
invariant-loop-left l =
    (l.left ≤ length l.values) × (22 * l.left ≤ l.start) × (l.start ≤ length l.room)
    × (drop l.start l.room ≡ further (separator_bytes l.separator) (drop l.left l.values))

abbrev pub decreases-loop-left : goal.decreases-loop-left
decreases-loop-left l = l.left
