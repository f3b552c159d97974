use Rattle.std.proofs.Common.{◌≡◌, length}
use Rattle.columns.specs.Number.{drop_blanks}
use Rattle.columns.proofs.cell.without_first_blanks.Given as goal

-- what is skipped so far were blanks
abbrev pub invariant-loop-rest : goal.invariant-loop-rest
invariant-loop-rest l = drop_blanks l.rest ≡ drop_blanks l.initial.rest

abbrev pub decreases-loop-rest : goal.decreases-loop-rest
decreases-loop-rest l = length l.rest
