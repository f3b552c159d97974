use Rattle.std.proofs.Common.{rules}
use Rattle.std.specs.Fmt.{decimal}
use Rattle.merge_run.proofs.TakenLemmas.{decimal_bytes}
use Rattle.merge_run.proofs.taking.take_count.Goals as goal

pub returns-in_err-digits : goal.returns-in_err-digits
returns-in_err-digits c = λ n rest b fits is same.
    let taken = c.take_digits.ensures.complete (decimal n) rest b (decimal_bytes n fits) is same in
    search rules

pub returns-in_err-count_of : goal.returns-in_err-count_of
returns-in_err-count_of c = λ n rest b fits is same.
    let taken = c.take_digits.ensures.complete (decimal n) rest b (decimal_bytes n fits) is same in
    search rules

pub returns : goal.returns
returns c = λ n rest b fits is same.
    let taken = c.take_digits.ensures.complete (decimal n) rest b (decimal_bytes n fits) is same in
    search rules
