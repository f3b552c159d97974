use Rattle.std.proofs.Common.{◌≡◌, arith, get_or, rules, sym}
use Rattle.std.proofs.lemmas.Bool.Decides.{nat_tests}
use Rattle.columns.specs.TextRows.{ends_cell}
use Rattle.columns.proofs.TextLemmas.{none_between}
use Rattle.columns.proofs.TextNumbers.{bare_field, quoted_field}
use Rattle.columns.proofs.text_decimals.cell_text.Goals as goal

pub returns-then-has_quote-clause-reads : goal.returns-then-has_quote-clause-reads
returns-then-has_quote-clause-reads c is_last ys mark =
    let text = c.args.text.now in
    let found = c.in_ok-to.ensures in
    let there = c.if-has_quote.ensures.quote in
    let quote : get_or text c.args.at 0 ≡ 34 = grind (arith, nat_tests, there) in
    quoted_field c.args.separator text c.args.at c.in_ok-to.to is_last ys c.requires.separator (search rules) quote
    found.within.0 found.within.1 found.quote found.none mark

pub returns-clause-reads : goal.returns-clause-reads
returns-clause-reads c is_last ys mark =
    let text = c.args.text.now in
    let at = c.args.at in
    let end = c.in_ok-end.end in
    let found = c.in_ok-end.ensures in
    let plain = none_between (ends_cell c.args.separator) text at end found.within.0 (omega (arith, found.within.1))
    found.none in
    bare_field c.args.separator text at end is_last ys c.requires.separator found.within.0 plain
    (sym c.if-has_quote.ensures.quote) mark
