use Rattle.std.proofs.Common.{rules}
use Rattle.std.specs.Fmt.{signed_decimal}
use Rattle.merge_run.proofs.TakenLemmas.{number_bytes}
use Rattle.merge_run.proofs.taking.take_number.Goals as goal

pub returns-in_err-digits-clause-complete : goal.returns-in_err-digits-clause-complete
returns-in_err-digits-clause-complete c = λ z rest b fits is same.
    let taken = c.take_digits.ensures.complete (signed_decimal z) rest b (number_bytes z fits) is same in
    search rules

pub returns-in_err-number_of-clause-complete : goal.returns-in_err-number_of-clause-complete
returns-in_err-number_of-clause-complete c = λ z rest b fits is same.
    let taken = c.take_digits.ensures.complete (signed_decimal z) rest b (number_bytes z fits) is same in
    search rules

pub returns-clause-complete : goal.returns-clause-complete
returns-clause-complete c = λ z rest b fits is same.
    let taken = c.take_digits.ensures.complete (signed_decimal z) rest b (number_bytes z fits) is same in
    search rules
