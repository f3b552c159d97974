use Rattle.std.proofs.Common.{◌≡◌, ◌<◌, ◌^◌, ◌∙◌, FitsSigned, Ok, ap, of_z, rules, sym, w64}
use Rattle.lambda_values.specs.Operators.{rounded_down}
use Rattle.lambda_values.specs.Wrap.{wrap}
use Rattle.lambda_values.proofs.Quotients.{floor_rest}
use Rattle.batch_eval.proofs.ReciprocalLemmas.{divisor_counts}
use Rattle.batch_eval.proofs.division.FloorRemainderByReciprocalDivision.apply.Goals as goal

pub returns : goal.returns
returns g c =
    let x = c.args.x in
    let y = c.number.result in
    let d = c.quotient_down.result in
    let number = sym c.number.ensures.value in
    let fits : FitsSigned w64 d = search rules in
    let divisor_fits : FitsSigned w64 y = search rules in
    let small : of_z w64 x < 2 ^ 64 = search rules in
    let down : d ≡ wrap (rounded_down x (g.R.Divisor.number c.args.by)) = search rules in
    let is : d ≡ wrap (rounded_down x y) = down ∙ ap (λ n. wrap (rounded_down x n)) number in
    rw number (rw (divisor_counts y c.number.ensures.above)
    (ap Ok (floor_rest x y d small c.ranges.x divisor_fits fits is)))
