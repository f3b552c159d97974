use Rattle.std.proofs.Common.{◌≡◌, ◌++◌, flat_map, take}
use Rattle.report.specs.AnswerForms.{further}
use Rattle.report.specs.Numbers.{separator_bytes}
use Rattle.report.proofs.numbers.write_others.Given as goal

-- the text of the numbers of the pieces before this one is appended
abbrev pub invariant-loop-piece : goal.invariant-loop-piece
invariant-loop-piece l = l.text.items ≡ l.initial.text.items
    ++ further (separator_bytes l.separator) (flat_map (λ piece. piece.items) (take l.piece-index l.pieces))
