use Rattle.std.proofs.Common.{ap, ◌∙◌, reverse}
use Rattle.columns.specs.Decimals.{decimal_of, signed_with}
use Rattle.columns.specs.Number.{drop_blanks}
use Rattle.columns.proofs.SpelledDecimals.{SpellsDecimal-if_some, decimal_of-SpellsDecimal}
use Rattle.columns.proofs.decimals.read_decimal.Goals as goal

pub returns-clause-value : goal.returns-clause-value
unfolding decimal_of
returns-clause-value c =
    c.signed.ensures
    ∙ ap (signed_with c.args.places) (c.without_last_blanks.ensures
    ∙ ap (λ r. reverse (drop_blanks (reverse r))) c.without_first_blanks.ensures)

pub returns-clause-spells : goal.returns-clause-spells
returns-clause-spells c = SpellsDecimal-if_some c.args.places c.args.cell.now c.signed.result (returns-clause-value c)

pub returns-clause-only : goal.returns-clause-only
returns-clause-only c n s = returns-clause-value c ∙ decimal_of-SpellsDecimal c.args.places c.args.cell.now n s
