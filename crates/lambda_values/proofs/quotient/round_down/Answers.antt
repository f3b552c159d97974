use Rattle.std.proofs.Common.{◌≡◌, ◌∙◌, FitsSigned, arith, of_z, pos, rules, w64}
use Rattle.std.specs.Prelude.{int_div, int_rem}
use Rattle.std.proofs.lemmas.Int.{to_z-of_z, wrapping_sub_is}
use Rattle.lambda_values.specs.Operators.{is_opposite}
use Rattle.lambda_values.specs.Wrap.{wrap}
use Rattle.lambda_values.proofs.Quotients.{quotient_wraps, rounds_right, rounds_up}
use Rattle.lambda_values.proofs.quotient.round_down.Goals as goal

pub returns-then-is_opposite : goal.returns-then-is_opposite
returns-then-is_opposite c =
    let x = c.args.x in
    let y = c.args.y in
    let q = c.wrapping_div-toward_zero.result in
    let fits : FitsSigned w64 q = search rules in
    let one : FitsSigned w64 (pos 1) = search rules in
    let other : (of_z w64 y ≡ 0 → ⊥) = λ zero_divisor. let above = c.requires in omega arith in
    let is : q ≡ wrap (int_div x y) = quotient_wraps x y q c.ranges.x c.ranges.y c.wrapping_div-toward_zero.ensures in
    let test : c.is_opposite.result ≡ is_opposite (int_rem x y) y = search rules in
    wrapping_sub_is w64 q (pos 1) fits one ∙ rounds_up q x y c.is_opposite.result other test c.if-is_opposite.true is

pub returns-else-is_opposite : goal.returns-else-is_opposite
returns-else-is_opposite c =
    let x = c.args.x in
    let y = c.args.y in
    let q = c.wrapping_div-toward_zero.result in
    let fits : FitsSigned w64 q = search rules in
    let other : (of_z w64 y ≡ 0 → ⊥) = λ zero_divisor. let above = c.requires in omega arith in
    let is : q ≡ wrap (int_div x y) = quotient_wraps x y q c.ranges.x c.ranges.y c.wrapping_div-toward_zero.ensures in
    let test : c.is_opposite.result ≡ is_opposite (int_rem x y) y = search rules in
    to_z-of_z w64 q fits ∙ rounds_right q x y c.is_opposite.result other test c.if-is_opposite.false is
