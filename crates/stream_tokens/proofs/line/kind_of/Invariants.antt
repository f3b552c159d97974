use Rattle.std.proofs.Common.{◌≡◌, length}
use Rattle.stream_tokens.specs.JobTexts.{kind_of}
use Rattle.stream_tokens.proofs.line.kind_of.Given as goal

-- the bytes that were passed are blanks
abbrev pub invariant-loop-rest : goal.invariant-loop-rest
invariant-loop-rest l = kind_of l.rest ≡ kind_of l.line

abbrev pub decreases-loop-rest : goal.decreases-loop-rest
decreases-loop-rest l = length l.rest
