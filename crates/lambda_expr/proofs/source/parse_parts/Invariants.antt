use Rattle.std.proofs.Common.{◌≡◌, ◌-◌, List, length}
use Rattle.lambda_expr.specs.Grammar.{Shape}
use Rattle.lambda_expr.specs.SourceReading.{each_postfix, steps_of}
use Rattle.lambda_expr.proofs.PartLemmas.{IsPast}
use Rattle.lambda_expr.proofs.source.parse_parts.Given as goal

-- the operands so far, and what may follow them
abbrev pub invariant-loop-at : goal.invariant-loop-at
invariant-loop-at l = (front : List Shape) × (steps_of l.parts.items ≡ each_postfix front)
    × (length l.parts.items ≡ length front) × IsPast l.source l.words l.at front

abbrev pub decreases-loop-at : goal.decreases-loop-at
decreases-loop-at l = length l.words - l.at
