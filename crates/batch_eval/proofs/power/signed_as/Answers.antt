use Rattle.std.proofs.Common.{◌≡◌, ◌<◌, ◌^◌, ◌∙◌, FitsSigned, true, false, pos, rules, w64}
use Rattle.std.specs.Prelude.{int_lt}
use Rattle.std.specs.Int.{int_wrapping_neg}
use Rattle.std.proofs.lemmas.Int.{to_z-of_z}
use Rattle.batch_eval.proofs.PowerLemmas.{signed_above, signed_below}
use Rattle.batch_eval.proofs.power.signed_as.Goals as goal

pub returns-then-x-lt0 : goal.returns-then-x-lt0
returns-then-x-lt0 c =
    let x = c.args.x in
    let p = c.cast_signed-positive.result in
    let r = c.wrapping_neg.result in
    let small : c.args.magnitude < 2 ^ 64 = search rules in
    let fits : FitsSigned w64 p = search rules in
    let r_fits : FitsSigned w64 r = search rules in
    let neg : r ≡ int_wrapping_neg w64 p = search rules in
    let sign : int_lt x (pos 0) ≡ true = search rules in
    to_z-of_z w64 r r_fits ∙ signed_below x p r c.args.magnitude small fits c.cast_signed-positive.ensures neg sign

pub returns-else-x-lt0 : goal.returns-else-x-lt0
returns-else-x-lt0 c =
    let x = c.args.x in
    let p = c.cast_signed-positive.result in
    let small : c.args.magnitude < 2 ^ 64 = search rules in
    let fits : FitsSigned w64 p = search rules in
    let sign : int_lt x (pos 0) ≡ false = search rules in
    to_z-of_z w64 p fits ∙ signed_above x p c.args.magnitude small c.cast_signed-positive.ensures sign
