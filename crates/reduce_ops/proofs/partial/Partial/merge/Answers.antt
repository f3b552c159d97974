use Rattle.std.proofs.Common.{refl, sym, ap, ◌∙◌, rules, FitsSigned, w64}
use Rattle.std.proofs.lemmas.Int.{to_z-of_z}
use Rattle.reduce_ops.specs.Operators.{value_of}
use Rattle.reduce_ops.specs.Folds.{onto}
use Rattle.reduce_ops.proofs.FoldLemmas.{beside, merged}
use Rattle.reduce_ops.proofs.partial.Partial.merge.Goals as goal

pub returns-in-Some-clause-stands : goal.returns-in-Some-clause-stands
returns-in-Some-clause-stands c a b same p q =
    let fits : FitsSigned w64 c.in-Some.value = search rules in
    let value = c.fold_on.ensures ∙ ap (onto (value_of c.args.self.op) c.args.self.value)
    (to_z-of_z w64 c.in-Some.value fits)
    ∙ sym (ap (beside (value_of c.args.self.op) c.args.self.value) c.in-Some.is) in
    merged c.args.self c.args.right (record { op = c.args.self.op; value = c.fold_on.result; end = c.args.right.end }) a
    b c.in-Done.is same p q refl value refl
