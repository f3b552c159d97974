use Rattle.std.proofs.Common.{◌≡◌, length}
use Rattle.stream_tokens.specs.JobTexts.{jobs_of_lines}
use Rattle.stream_tokens.specs.TextsLeft.{lines_at}
use Rattle.stream_tokens.proofs.job_text.next_begun.Given as goal

-- the lines that were read are skipped ones
abbrev pub invariant-loop-line : goal.invariant-loop-line
invariant-loop-line l = jobs_of_lines (lines_at l.lines) ≡ jobs_of_lines (lines_at l.fn.lines)

abbrev pub decreases-loop-line : goal.decreases-loop-line
decreases-loop-line l = length l.lines.rest.now
