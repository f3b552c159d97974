use Rattle.std.proofs.Common.{◌≡◌, length}
use Rattle.std.specs.List.{list_all}
use Rattle.stream_tokens.specs.Bytes.{is_blank}
use Rattle.stream_tokens.proofs.version.are_blank.Given as goal

-- the bytes that were read are blanks
abbrev pub invariant-loop-rest : goal.invariant-loop-rest
invariant-loop-rest l = list_all is_blank l.rest ≡ list_all is_blank l.bytes

abbrev pub decreases-loop-rest : goal.decreases-loop-rest
decreases-loop-rest l = length l.rest
