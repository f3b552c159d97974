use Rattle.std.proofs.Common.{◌≡◌, ◌+◌, ◌-◌, arith}
use Rattle.columns.proofs.numbers.digits_at.Goals as goal

pub returns-then-count-lt-BLOCK-clause-digits : goal.returns-then-count-lt-BLOCK-clause-digits
returns-then-count-lt-BLOCK-clause-digits c =
    let back : c.args.at + c.front_digits-value.result.1 - c.args.at ≡ c.front_digits-value.result.1 = omega arith in
    rw back c.front_digits-value.ensures.digits

pub more_digits-requires-2-clause-digits : goal.more_digits-requires-2-clause-digits
more_digits-requires-2-clause-digits c =
    let back : c.args.at + c.front_digits-value.result.1 - c.args.at ≡ c.front_digits-value.result.1 = omega arith in
    rw back c.front_digits-value.ensures.digits
