use Rattle.std.proofs.Common.{◌≡◌, ◌++◌, [], drop, length}
use Rattle.report.specs.Pieces.{draft_bytes}
use Rattle.report.specs.Text.{lines_of}
use Rattle.report.proofs.long_text.text_by.Given as goal

-- what is written, and the lines that are left, are all the lines; without a line there is no piece
abbrev pub invariant-loop-name : goal.invariant-loop-name
invariant-loop-name g l =
    (draft_bytes l.draft ++ lines_of l.names (drop (length l.yielded) l.names) (drop (length l.yielded) l.answers)
    ≡ lines_of l.names l.names l.answers)
    × (l.yielded ≡ [] → l.draft.pieces.items ≡ [])
