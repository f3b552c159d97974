use Rattle.std.proofs.Common.{rules, ◌≡◌, ◌∙◌, ℤ, pos, ◌+ℤ◌, Ok, ap, sym, w64, to_z, of_z}
use Rattle.lambda_values.specs.Term.{long_of}
use Rattle.lambda_values.specs.Value.{long_value}
use Rattle.lambda_values.specs.Wrap.{wrap}
use Rattle.batch_eval.specs.Batches.{counted_item, going_up}
use Rattle.batch_eval.proofs.ProgressionLemmas.{counts_up}
use Rattle.batch_eval.proofs.counted.+progression_of.Goals as goal

pub returns-in-Parameter : goal.returns-in-Parameter
returns-in-Parameter t c = λ origin k.
    let a = c.args.first in
    let same : to_z w64 (of_z w64 a) ≡ a = search rules in
    let item : long_value (long_of c.args.expr.now) (counted_item origin a k) c.args.env.now ≡ Ok (wrap (a +ℤ pos k)) =
    search rules in
    item ∙ ap Ok (sym (counts_up a k c.ranges.first)) ∙ ap (λ (z : ℤ). Ok (going_up z (pos 1) k)) (sym same)
