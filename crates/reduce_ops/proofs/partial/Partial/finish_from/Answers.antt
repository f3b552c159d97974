use Rattle.std.proofs.Common.{sym, ap, ◌∙◌, Ok, rules, FitsSigned, w64}
use Rattle.std.proofs.lemmas.Int.{to_z-of_z}
use Rattle.reduce_ops.specs.Operators.{value_of}
use Rattle.reduce_ops.proofs.FoldLemmas.{finished, started}
use Rattle.reduce_ops.proofs.partial.Partial.finish_from.Goals as goal

pub returns-in-Some : goal.returns-in-Some
returns-in-Some c t h =
    let f = value_of c.args.self.op in
    let fits : FitsSigned w64 c.apply.result = search rules in
    let value_fits : FitsSigned w64 c.in-Some.value = search rules in
    let value = c.apply.ensures ∙ (λ i. f (to_z-of_z w64 c.args.start c.ranges.start i)
    (to_z-of_z w64 c.in-Some.value value_fits i)) in
    ap Ok (to_z-of_z w64 c.apply.result fits)
    ∙ finished c.args.self.op c.args.start c.apply.result c.in_ok-value.field-0 t (c.in_ok-value.ensures t h)
    (ap (started f c.args.start) c.in-Some.is ∙ sym value)

pub returns-in-None : goal.returns-in-None
returns-in-None c t h =
    ap Ok (to_z-of_z w64 c.args.start c.ranges.start)
    ∙ finished c.args.self.op c.args.start c.args.start c.in_ok-value.field-0 t (c.in_ok-value.ensures t h)
    (ap (started (value_of c.args.self.op) c.args.start) c.in-None.is)
