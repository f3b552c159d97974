use Rattle.std.proofs.Common.{◌≡◌, ◌∙◌, ◌+ℤ◌, ◌-ℤ◌, ap, negsuc, of_z, pos, rules, to_z, w64}
use Rattle.std.specs.Int.Signed.{le_z}
use Rattle.lambda_values.specs.Wrap.{wrap}
use Rattle.batch_eval.specs.NumberTests.{to_least}
use Rattle.batch_eval.proofs.ShiftLemmas.{holds_above, holds_equal, holds_from}
use Rattle.batch_eval.proofs.number_test.shift_of.Goals as goal

pub returns-in-Equal : goal.returns-in-Equal
returns-in-Equal c = λ z fits.
    let number : to_z w64 (of_z w64 c.args.number) ≡ c.args.number = search rules in
    let shift : to_z w64 (of_z w64 c.to_least.result) ≡ c.to_least.result = search rules in
    rw (c.in-Equal.is) (ap (λ s. le_z (wrap (z -ℤ s)) (negsuc 9223372036854775807))
    (shift ∙ c.to_least.ensures ∙ ap to_least number) ∙ holds_equal z c.args.number fits (search rules))

pub returns-in_ok-checked_add-in-Greater : goal.returns-in_ok-checked_add-in-Greater
returns-in_ok-checked_add-in-Greater c = λ z fits.
    let next = c.in_ok-checked_add-in-Greater.field-0 in
    let number : to_z w64 (of_z w64 c.args.number) ≡ c.args.number = search rules in
    let next_is : to_z w64 (of_z w64 next) ≡ next = search rules in
    let follows : next ≡ c.args.number +ℤ pos 1 = search rules in
    let shift : to_z w64 (of_z w64 c.to_least-in-Greater.result) ≡ c.to_least-in-Greater.result = search rules in
    let most : to_z w64 (of_z w64 (negsuc 1 -ℤ to_z w64 (of_z w64 c.args.number))) ≡ negsuc 1 -ℤ c.args.number =
    search rules in
    rw (c.in-Greater.is, most) (ap (λ s. le_z (wrap (z -ℤ s)) (negsuc 1 -ℤ c.args.number))
    (shift ∙ c.to_least-in-Greater.ensures ∙ ap to_least next_is)
    ∙ holds_above z next fits (search rules) c.args.number follows (search rules))

pub returns-in-GreaterOrEqual : goal.returns-in-GreaterOrEqual
returns-in-GreaterOrEqual c = λ z fits.
    let number : to_z w64 (of_z w64 c.args.number) ≡ c.args.number = search rules in
    let shift : to_z w64 (of_z w64 c.to_least-in-GreaterOrEqual.result) ≡ c.to_least-in-GreaterOrEqual.result =
    search rules in
    let most : to_z w64 (of_z w64 (negsuc 0 -ℤ to_z w64 (of_z w64 c.args.number))) ≡ negsuc 0 -ℤ c.args.number =
    search rules in
    rw (c.in-GreaterOrEqual.is, most) (ap (λ s. le_z (wrap (z -ℤ s)) (negsuc 0 -ℤ c.args.number))
    (shift ∙ c.to_least-in-GreaterOrEqual.ensures ∙ ap to_least number)
    ∙ holds_from z c.args.number fits (search rules))
