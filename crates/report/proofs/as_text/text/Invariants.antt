use Rattle.std.proofs.Common.{◌≡◌, ◌++◌, drop, length}
use Rattle.report.specs.Text.{lines_of}
use Rattle.report.proofs.as_text.text.Given as goal

-- what is written, and the lines that are left, are all the lines
abbrev pub invariant-loop-name : goal.invariant-loop-name
invariant-loop-name l =
    l.report.items ++ lines_of l.names (drop (length l.yielded) l.names) (drop (length l.yielded) l.answers)
    ≡ lines_of l.names l.names l.answers
