use Rattle.std.proofs.Common.{arith}
use Rattle.columns.proofs.NumberLemmas.{minus_there}
use Rattle.columns.proofs.TextNumbers.{bare_minus}
use Rattle.columns.proofs.numbers.negative_number.Goals as goal

pub returns-clause-number : goal.returns-clause-number
returns-clause-number c =
    let d = c.digits_at-size.ensures in
    minus_there c.args.text.now c.args.at _ _ (omega (arith, d.ends, c.if-at-end.false)) d.ends.1 c.requires.minus
    d.digits d.value d.fits

pub returns-clause-bare : goal.returns-clause-bare
returns-clause-bare c =
    let d = c.digits_at-size.ensures in
    bare_minus c.args.text.now c.args.at _ (omega (arith, d.ends, c.if-at-end.false)) d.ends.1 c.requires.minus d.digits
