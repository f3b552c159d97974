use Rattle.std.proofs.Common.{◌≡◌, ◌∙◌, ◌+◌, ◌-◌, ◌%◌, ◌-ℤ◌, FitsSigned, ap, of_z, rules, to_z, w64}
use Rattle.std.proofs.lemmas.Int.{wraps}
use Rattle.std.specs.Int.Signed.{le_z}
use Rattle.lambda_values.specs.Wrap.{wrap}
use Rattle.batch_eval.proofs.number_test.NumberTest.compares.Goals as goal

pub returns : goal.returns
returns c =
    let z = c.args.z in
    let test = c.args.self in
    let fits : FitsSigned w64 z = search rules in
    let left : to_z w64 ((of_z w64 z + (18446744073709551616 - of_z w64 test.shift)) % 18446744073709551616)
    ≡ wrap (z -ℤ test.shift) = search (rules, wraps) in
    let most : to_z w64 (of_z w64 test.most) ≡ test.most = search rules in
    ap (λ x. le_z x (to_z w64 (of_z w64 test.most))) left ∙ ap (le_z (wrap (z -ℤ test.shift))) most ∙ test.agrees z fits
