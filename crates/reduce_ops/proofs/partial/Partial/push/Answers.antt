use Rattle.std.proofs.Common.{refl, ap, ◌∙◌, Some, [], ◌∷◌, rules, FitsSigned, w64}
use Rattle.std.proofs.lemmas.Int.{to_z-of_z}
use Rattle.trace.specs.Trace.{trace}
use Rattle.trace.specs.declared.item.End.TheVariants as end
use Rattle.reduce_ops.specs.Operators.{value_of}
use Rattle.reduce_ops.specs.Folds.{onto}
use Rattle.reduce_ops.proofs.FoldLemmas.{merged}
use Rattle.reduce_ops.proofs.partial.Partial.push.Goals as goal

pub returns-clause-stands : goal.returns-clause-stands
returns-clause-stands c t p =
    let x = c.args.item in
    let op = c.args.self.now.op in
    let fits : FitsSigned w64 c.args.item.value = search rules in
    let value = c.fold_on-self.ensures ∙ ap (onto (value_of c.args.self.now.op) c.args.self.now.value)
    (to_z-of_z w64 c.args.item.value fits) in
    merged c.args.self.now (record { op = op; value = Some x.value; end = end.Done })
    (record { op = op; value = c.fold_on-self.result; end = c.args.self.now.end }) t (trace (x ∷ []) end.Done)
    c.requires refl p (record { value = refl; ending = refl }) refl value c.requires
