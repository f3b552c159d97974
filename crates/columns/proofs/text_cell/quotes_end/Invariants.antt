use Rattle.std.proofs.Common.{◌≤◌, ◌-◌, ℕ, List, drop, length}
use Rattle.csv.specs.declared.parser.State.TheVariants as st
use Rattle.columns.specs.TextRows.{GoesQuoted}
use Rattle.columns.proofs.text_cell.quotes_end.Given as goal

-- the quotes go on at this place
abbrev pub invariant-loop-from : goal.invariant-loop-from
invariant-loop-from l =
    (l.at ≤ l.from) × (l.from ≤ length l.text)
    × ((inside : List ℕ) × ((s : ℕ) → GoesQuoted s st.InQuoted (drop l.at l.text) inside (drop l.from l.text)))

abbrev pub decreases-loop-from : goal.decreases-loop-from
decreases-loop-from l = length l.text - l.from
