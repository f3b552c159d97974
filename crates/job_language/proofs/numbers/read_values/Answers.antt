use Rattle.std.proofs.Common.{◌+◌, length, drop, sym, ap, ◌∙◌}
use Rattle.std.proofs.lemmas.Result.{err_from_is_err_and}
use Rattle.job_language.specs.Table.{params_of}
use Rattle.lambda_expr.specs.CodeWords.{words_in}
use Rattle.job_language.specs.Shapes.{call_in}
use Rattle.job_language.specs.Causes.{count_of, number_causes, numbers_of, values_cause}
use Rattle.job_language.proofs.CauseLemmas.{length_parts, by_count, by_numbers, by_row}
use Rattle.job_language.proofs.numbers.read_values.Goals as goal

pub returns-in-Some-clause-refused : goal.returns-in-Some-clause-refused
returns-in-Some-clause-refused c = λ other.
    let k = call_in (words_in c.args.text.now) c.args.call.now in
    let q = params_of k.operation in
    let n = length k.parts in
    let same = length_parts (drop (c.args.call.now.opened + 1) (words_in c.args.text.now)) 0
    c.args.call.now.ends.items in
    by_count (count_of q n) (values_cause q (numbers_of k.operation n 0 k.parts))
    (number_causes k.operation n 0 k.parts) c.in-Some.cause
    (ap (count_of q) same ∙ sym c.count_cause.ensures ∙ c.in-Some.is)

pub returns-in_err-numbers-clause-refused : goal.returns-in_err-numbers-clause-refused
returns-in_err-numbers-clause-refused c =
    let k = call_in (words_in c.args.text.now) c.args.call.now in
    let q = params_of k.operation in
    let n = length k.parts in
    let same = length_parts (drop (c.args.call.now.opened + 1) (words_in c.args.text.now)) 0
    c.args.call.now.ends.items in
    let p = err_from_is_err_and c.from_residual.result c.from_residual.ensures.1 in
    rw (p.1, p.2) (λ other. by_numbers (count_of q n) (values_cause q (numbers_of k.operation n 0 k.parts))
    (number_causes k.operation n 0 k.parts) c.in_err-numbers.field-0.0
    (ap (count_of q) same ∙ sym c.count_cause.ensures ∙ c.in_default.is) (c.in_err-numbers.ensures.refused other))

pub returns-in-Some-values_cause-clause-refused : goal.returns-in-Some-values_cause-clause-refused
returns-in-Some-values_cause-clause-refused c = λ other.
    let k = call_in (words_in c.args.text.now) c.args.call.now in
    let q = params_of k.operation in
    let n = length k.parts in
    let same = length_parts (drop (c.args.call.now.opened + 1) (words_in c.args.text.now)) 0
    c.args.call.now.ends.items in
    by_row (count_of q n) (values_cause q (numbers_of k.operation n 0 k.parts)) (number_causes k.operation n 0 k.parts)
    (ap (count_of q) same ∙ sym c.count_cause.ensures ∙ c.in_default.is) c.in_ok-numbers.ensures.ok.0
    ∙ ap (values_cause q) (sym c.in_ok-numbers.ensures.ok.1)
    ∙ ap (values_cause q) (sym c.deref.ensures.value)
    ∙ ap (λ v. values_cause v c.deref.result.now) (sym c.params_of.ensures)
    ∙ sym c.values_cause.ensures
    ∙ c.in-Some-values_cause.is

pub returns-in-None-clause-ok : goal.returns-in-None-clause-ok
returns-in-None-clause-ok c =
    let k = call_in (words_in c.args.text.now) c.args.call.now in
    let q = params_of k.operation in
    let n = length k.parts in
    let same = length_parts (drop (c.args.call.now.opened + 1) (words_in c.args.text.now)) 0
    c.args.call.now.ends.items in (
      by_row (count_of q n) (values_cause q (numbers_of k.operation n 0 k.parts))
          (number_causes k.operation n 0 k.parts) (ap (count_of q) same ∙ sym c.count_cause.ensures ∙ c.in_default.is)
          c.in_ok-numbers.ensures.ok.0
          ∙ ap (values_cause q) (sym c.in_ok-numbers.ensures.ok.1)
          ∙ ap (values_cause q) (sym c.deref.ensures.value)
          ∙ ap (λ v. values_cause v c.deref.result.now) (sym c.params_of.ensures)
          ∙ sym c.values_cause.ensures
          ∙ c.in-None.is,
      c.in_ok-numbers.ensures.ok.1,
    )
