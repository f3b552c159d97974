use Rattle.std.proofs.Common.{ap, ◌∙◌, reverse}
use Rattle.columns.specs.Number.{number_of, drop_blanks, signed_number}
use Rattle.columns.proofs.SpelledNumbers.{SpellsCell-if_some, number_of-SpellsCell}
use Rattle.columns.proofs.cell.read_cell.Goals as goal

pub returns-clause-value : goal.returns-clause-value
unfolding number_of
returns-clause-value c =
    c.signed.ensures ∙ ap signed_number (c.without_last_blanks.ensures
    ∙ ap (λ r. reverse (drop_blanks (reverse r))) c.without_first_blanks.ensures)

pub returns-clause-spells : goal.returns-clause-spells
returns-clause-spells c = SpellsCell-if_some c.args.cell.now c.signed.result (returns-clause-value c)

pub returns-clause-only : goal.returns-clause-only
returns-clause-only c n s = (returns-clause-value c) ∙ number_of-SpellsCell c.args.cell.now n s
