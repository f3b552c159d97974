use Rattle.std.proofs.Common.{length, ◌-◌, ◌≤◌}
use Rattle.stream_tokens.specs.Tokens.{CutBetween}
use Rattle.stream_tokens.proofs.scanner.cut.Given as goal

abbrev pub invariant-loop-at : goal.invariant-loop-at
invariant-loop-at l = record { in_range : l.at ≤ length l.text; cuts : CutBetween l.text 0 l.tokens.items l.at }

abbrev pub decreases-loop-at : goal.decreases-loop-at
decreases-loop-at l = length l.text - l.at
