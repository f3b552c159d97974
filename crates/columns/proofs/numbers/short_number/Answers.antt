use Rattle.std.proofs.Common.{◌-◌, arith, drop, take}
use Rattle.columns.proofs.NumberLemmas.{digits_there}
use Rattle.columns.proofs.TextNumbers.{bare_digits}
use Rattle.columns.proofs.numbers.short_number.Goals as goal

pub returns-clause-number : goal.returns-clause-number
returns-clause-number c =
    let d = c.digits_at-size.ensures in
    digits_there c.args.text.now c.args.at _ _ (omega (arith, d.ends, c.if-at-end.false)) d.ends.1 d.digits d.value
    d.fits

pub returns-clause-bare : goal.returns-clause-bare
returns-clause-bare c = bare_digits (take (c.digits_at-size.result.1 - c.args.at) (drop c.args.at c.args.text.now))
    c.digits_at-size.ensures.digits
