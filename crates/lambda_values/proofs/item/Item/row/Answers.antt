use Rattle.std.proofs.Common.{◌≡◌, ◌<◌, ◌^◌, ◌∙◌, sym, to_z, pos, rules, w64, FitsSigned}
use Rattle.std.proofs.lemmas.Int.{to_z-of_z}
use Rattle.lambda_values.proofs.Quotients.{wrap_small}
use Rattle.lambda_values.proofs.item.Item.row.Goals as goal

pub returns : goal.returns
returns c =
    let place = c.args.self.origin in
    let r = c.cast_signed.result in
    let fits : FitsSigned w64 r = search rules in
    let small : place < 2 ^ 64 = search rules in
    let value : r ≡ to_z w64 place = search rules in
    to_z-of_z w64 r fits ∙ value ∙ sym (wrap_small (pos place) small)
