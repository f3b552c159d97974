use Rattle.std.proofs.Common.{◌≡◌}
use Rattle.stream_tokens.specs.JobTexts.{job_texts_of}
use Rattle.stream_tokens.proofs.TextLemmas.{with_front, count_left}
use Rattle.stream_tokens.proofs.job_text.job_texts.Given as goal

-- the texts so far and the texts that are left are the texts of all lines
abbrev pub invariant-loop-texts : goal.invariant-loop-texts
invariant-loop-texts l = job_texts_of l.bytes ≡ with_front l.texts.items l.left

abbrev pub decreases-loop-texts : goal.decreases-loop-texts
decreases-loop-texts l = count_left l.left
