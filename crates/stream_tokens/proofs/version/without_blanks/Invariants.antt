use Rattle.std.proofs.Common.{◌≡◌, length}
use Rattle.stream_tokens.specs.JobTexts.{without_blanks}
use Rattle.stream_tokens.proofs.version.without_blanks.Given as goal

-- the bytes that were read are blanks
abbrev pub invariant-loop-rest : goal.invariant-loop-rest
invariant-loop-rest l = without_blanks l.rest ≡ without_blanks l.bytes

abbrev pub decreases-loop-rest : goal.decreases-loop-rest
decreases-loop-rest l = length l.rest
