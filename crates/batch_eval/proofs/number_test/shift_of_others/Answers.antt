use Rattle.std.proofs.Common.{◌≡◌, ◌∙◌, ◌+ℤ◌, ◌-ℤ◌, ap, of_z, pos, rules, to_z, w64}
use Rattle.std.specs.Int.Signed.{le_z}
use Rattle.lambda_values.specs.Wrap.{wrap}
use Rattle.batch_eval.specs.NumberTests.{to_least}
use Rattle.batch_eval.proofs.ShiftLemmas.{holds_other}
use Rattle.batch_eval.proofs.number_test.shift_of_others.Goals as goal

pub returns-in-Some : goal.returns-in-Some
returns-in-Some c = λ z fits.
    let next : to_z w64 (of_z w64 c.in-Some.next) ≡ c.in-Some.next = search rules in
    let follows : c.in-Some.next ≡ c.args.number +ℤ pos 1 = search rules in
    let shift : to_z w64 (of_z w64 c.to_least.result) ≡ c.to_least.result = search rules in
    ap (λ s. le_z (wrap (z -ℤ s)) (pos 9223372036854775806)) (shift ∙ c.to_least.ensures ∙ ap to_least next)
    ∙ holds_other z c.in-Some.next fits (search rules) c.args.number follows (search rules)
