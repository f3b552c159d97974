use Rattle.std.proofs.Common.{◌≡◌, ◌-◌, ◌≤◌, ◌++◌, length, take}
use Rattle.report.specs.AnswerForms.{further}
use Rattle.report.specs.Numbers.{separator_bytes}
use Rattle.report.proofs.numbers.write_further.Given as goal

-- the text of the numbers up to `at` is appended
abbrev pub invariant-loop-at : goal.invariant-loop-at
invariant-loop-at l =
    (l.at ≤ length l.values) × (length l.room ≡ 1408)
    × (l.text.items ≡ l.initial.text.items ++ further (separator_bytes l.separator) (take l.at l.values))

abbrev pub decreases-loop-at : goal.decreases-loop-at
decreases-loop-at l = length l.values - l.at
