use Rattle.std.proofs.Common.{◌≡◌, ◌<◌, ◌≤◌, ◌-◌, ℕ, false, get_or, length}
use Rattle.columns.specs.TextRows.{ends_cell}
use Rattle.columns.proofs.text_cell.mark_from.Given as goal

-- no mark so far
abbrev pub invariant-loop-from : goal.invariant-loop-from
invariant-loop-from l =
    (l.at ≤ l.from) × (l.from ≤ length l.text)
    × ((k : ℕ) → l.at ≤ k → k < l.from → ends_cell l.separator (get_or l.text k 0) ≡ false)

abbrev pub decreases-loop-from : goal.decreases-loop-from
decreases-loop-from l = length l.text - l.from

abbrev pub invariant-loop-end : goal.invariant-loop-end
invariant-loop-end l = (l.at ≤ l.end) × ((k : ℕ) → l.at ≤ k → k < l.end
    → ends_cell l.separator (get_or l.text k 0) ≡ false)
