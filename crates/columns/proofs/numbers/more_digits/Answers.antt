use Rattle.std.proofs.Common.{◌≡◌, arith, get_or, true, rules}
use Rattle.std.specs.Char.{is_ascii_digit}
use Rattle.columns.proofs.NumberLemmas.{digits_more, value_more}
use Rattle.columns.proofs.numbers.more_digits.Goals as goal

pub loop-end-preserved : goal.loop-end-preserved
loop-end-preserved c =
    let text = c.args.text.now in
    let end = c.loop-end.end in
    let (low, all, is, small) = c.loop-end.invariant in
    let digit : is_ascii_digit (get_or text end 0) ≡ true = search rules in
    let value = value_more text c.args.at end low c.loop-end-test.true in (
      omega (arith, low),
      digits_more text c.args.at end low c.loop-end-test.true all digit,
      search (rules, value),
      search rules,
    )
