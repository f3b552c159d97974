use Rattle.std.proofs.Common.{◌≡◌, ◌+◌, ◌++◌, ◌<◌, ◌≤◌, [], length, drop, get_or, sym, ap, subst, ◌∙◌, append_assoc}
use Rattle.std.proofs.Common.{append-nil}
use Rattle.std.proofs.lemmas.List.{drop_all}
use Rattle.std.proofs.lemmas.Result.{err_from_is_err_and}
use Rattle.job_language.specs.Table.{param_of}
use Rattle.lambda_expr.specs.CodeWords.{words_in}
use Rattle.job_language.specs.Shapes.{call_in}
use Rattle.job_language.specs.Causes.{first_cause, number_cause, number_causes, number_in, numbers_of}
use Rattle.job_language.proofs.CauseLemmas.{length_parts, numbers_here, numbers_more}
use Rattle.job_language.proofs.CollectedPartLemmas.{values_more}
use Rattle.job_language.proofs.numbers.read_numbers.Goals as goal

pub returns-in_err-add_number-clause-refused : goal.returns-in_err-add_number-clause-refused
returns-in_err-add_number-clause-refused c =
    let o = c.args.call.now.operation in
    let xs = (call_in (words_in c.args.text.now) c.args.call.now).parts in
    let i = c.loop-place.place in
    let same : length xs ≡ length c.as_slice-count.result.now =
    length_parts (drop (c.args.call.now.opened + 1) (words_in c.args.text.now)) 0 c.args.call.now.ends.items
    ∙ ap length (sym c.as_slice-count.ensures.value) in
    let lt : i < length xs = subst (λ n. i < n) (sym same) c.loop-place-test.true in
    let p = err_from_is_err_and c.from_residual.result c.from_residual.ensures.1 in
    rw (p.1, p.2) (λ other. c.loop-place.invariant.0
    ∙ numbers_here o (length xs) i xs c.in_err-add_number.field-0.0 lt (
    ap (λ n. number_cause (param_of o n i) (get_or xs i [])) same
    ∙ ap (λ p. number_cause p (get_or xs i [])) (sym c.param_of-param.ensures)
    ∙ ap (number_cause c.param_of-param.result) (sym c.part_of.ensures.words)
    ∙ c.in_err-add_number.ensures.refused other))

pub loop-place-preserved : goal.loop-place-preserved
loop-place-preserved c =
    let o = c.args.call.now.operation in
    let xs = (call_in (words_in c.args.text.now) c.args.call.now).parts in
    let i = c.loop-place.place in
    let same : length xs ≡ length c.as_slice-count.result.now =
    length_parts (drop (c.args.call.now.opened + 1) (words_in c.args.text.now)) 0 c.args.call.now.ends.items
    ∙ ap length (sym c.as_slice-count.ensures.value) in
    let lt : i < length xs = subst (λ n. i < n) (sym same) c.loop-place-test.true in
    let rest = numbers_of o (length xs) (i + 1) (drop (i + 1) xs) in (
      c.loop-place.invariant.0 ∙ numbers_more o (length xs) i xs lt (
          ap (λ n. number_cause (param_of o n i) (get_or xs i [])) same
          ∙ ap (λ p. number_cause p (get_or xs i [])) (sym c.param_of-param.ensures)
          ∙ ap (number_cause c.param_of-param.result) (sym c.part_of.ensures.words)
          ∙ c.in_ok-add_number.ensures.ok.0),
      c.loop-place.invariant.1
          ∙ ap (λ v. c.loop-place.numbers.items ++ v) (values_more o (length xs) i xs lt)
          ∙ sym (append_assoc c.loop-place.numbers.items (number_in (param_of o (length xs) i) (get_or xs i [])) rest)
          ∙ ap (λ v. v ++ rest) (
          ap (λ n. c.loop-place.numbers.items ++ number_in (param_of o n i) (get_or xs i [])) same
          ∙ ap (λ p. c.loop-place.numbers.items ++ number_in p (get_or xs i [])) (sym c.param_of-param.ensures)
          ∙ ap (λ v. c.loop-place.numbers.items ++ number_in c.param_of-param.result v) (sym c.part_of.ensures.words)
          ∙ sym c.in_ok-add_number.ensures.ok.1),
    )

pub returns-clause-ok : goal.returns-clause-ok
returns-clause-ok c =
    let o = c.args.call.now.operation in
    let xs = (call_in (words_in c.args.text.now) c.args.call.now).parts in
    let i = c.loop-place.place in
    let same : length xs ≡ length c.as_slice-count.result.now =
    length_parts (drop (c.args.call.now.opened + 1) (words_in c.args.text.now)) 0 c.args.call.now.ends.items
    ∙ ap length (sym c.as_slice-count.ensures.value) in
    let far : length xs ≤ i = subst (λ n. n ≤ i) (sym same) c.loop-place-test.false in (
      c.loop-place.invariant.0 ∙ ap (λ v. first_cause (number_causes o (length xs) i v)) (drop_all i xs far),
      sym (c.loop-place.invariant.1 ∙ ap (λ v. c.loop-place.numbers.items ++ numbers_of o (length xs) i v)
          (drop_all i xs far) ∙ append-nil c.loop-place.numbers.items),
    )
