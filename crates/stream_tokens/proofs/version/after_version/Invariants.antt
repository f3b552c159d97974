use Rattle.std.proofs.Common.{◌≡◌, length}
use Rattle.stream_tokens.specs.JobTexts.{texts_of_lines, version_in}
use Rattle.stream_tokens.specs.TextsLeft.{lines_at}
use Rattle.stream_tokens.proofs.version.after_version.Given as goal

-- the lines that were read are skipped ones
abbrev pub invariant-loop-line : goal.invariant-loop-line
invariant-loop-line l =
    (version_in l.newest (lines_at l.left) ≡ version_in l.newest (lines_at l.fn.lines))
    × (texts_of_lines l.newest (lines_at l.left) ≡ texts_of_lines l.newest (lines_at l.fn.lines))

abbrev pub decreases-loop-line : goal.decreases-loop-line
decreases-loop-line l = length l.left.rest.now
