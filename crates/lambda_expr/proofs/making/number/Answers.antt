use Rattle.std.proofs.Common.{◌≡◌, ◌∙◌, ◌<◌, ◌^◌, FitsSigned, ap, pos, rules, sym, w64}
use Rattle.std.proofs.lemmas.Int.{to_z-of_z}
use Rattle.std.specs.Int.{cast_signed}
use Rattle.lambda_values.specs.Term as term
use Rattle.lambda_expr.specs.Typing.{long}
use Rattle.lambda_values.proofs.Quotients.{wrap_small}
use Rattle.lambda_expr.proofs.making.number.Goals as goal

pub returns : goal.returns
returns c =
    let r = c.cast_signed.result in
    let fits : FitsSigned w64 r = search rules in
    let small : c.args.value < 2 ^ 64 = search rules in
    let is : r ≡ cast_signed w64 c.args.value = search rules in
    ap (λ z. long (term.number z)) (to_z-of_z w64 r fits ∙ is ∙ sym (wrap_small (pos c.args.value) small))
