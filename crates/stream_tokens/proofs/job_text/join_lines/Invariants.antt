use Rattle.std.proofs.Common.{◌≡◌, length}
use Rattle.stream_tokens.specs.JobTexts.{jobs_after}
use Rattle.stream_tokens.specs.TextsLeft.{lines_at}
use Rattle.stream_tokens.proofs.job_text.join_lines.Given as goal

-- the job has the lines that were read and continue it
abbrev pub invariant-loop-line : goal.invariant-loop-line
invariant-loop-line l = jobs_after l.job (lines_at l.lines) ≡ jobs_after l.fn.begun (lines_at l.fn.lines)

abbrev pub decreases-loop-line : goal.decreases-loop-line
decreases-loop-line l = length l.lines.rest.now
