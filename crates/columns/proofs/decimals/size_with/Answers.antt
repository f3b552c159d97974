use Rattle.columns.proofs.DecimalLemmas.{bad_fraction, bad_whole, size_none, size_some}
use Rattle.columns.proofs.decimals.size_with.Goals as goal

pub returns-in_err-size-clause-none : goal.returns-in_err-size-clause-none
returns-in_err-size-clause-none c =
    rw c.from_residual.ensures (bad_whole c.args.whole.now c.args.fraction.now c.args.count c.in_err-size.ensures.none)

pub returns-in_err-size-2-clause-none : goal.returns-in_err-size-2-clause-none
returns-in_err-size-2-clause-none c =
    let whole = c.in_ok-size.ensures.digits in
    rw c.from_residual-in_err-size-2.ensures
    (bad_fraction c.args.whole.now c.args.fraction.now c.args.count c.in_ok-size.size whole.1
    c.in_err-size-2.ensures.none)

pub returns-clause-digits : goal.returns-clause-digits
returns-clause-digits c =
    let whole = c.in_ok-size.ensures.digits in
    let fraction = c.in_ok-size-2.ensures.digits in
    size_some c.args.whole.now c.args.fraction.now c.args.count c.in_ok-size.size c.in_ok-size-2.size c.times_ten.result
    whole.1 whole.0 fraction.1 fraction.0 c.times_ten.ensures.value

pub returns-clause-none : goal.returns-clause-none
returns-clause-none c =
    let whole = c.in_ok-size.ensures.digits in
    let fraction = c.in_ok-size-2.ensures.digits in
    size_none c.args.whole.now c.args.fraction.now c.args.count c.in_ok-size.size c.in_ok-size-2.size c.times_ten.result
    whole.1 fraction.1 c.times_ten.ensures.none
