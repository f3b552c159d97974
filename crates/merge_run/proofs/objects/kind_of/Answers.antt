use Rattle.std.proofs.Common.{ap, sym, ◌∙◌, arith}
use Rattle.std.specs.Prelude.{nat_eq}
use Rattle.std.specs.Cmp.Lexicographic.{pointwise}
use Rattle.std.proofs.lemmas.List.{drop_all}
use Rattle.lambda_values.specs.declared.fault.FaultKind.TheVariants.{DivideByZero}
use Rattle.merge_run.proofs.KindLemmas.{kind_among, kind_here, kind_is, kind_more, kinds}
use Rattle.merge_run.proofs.objects.kind_of.Goals as goal

pub loop-kind-preserved : goal.loop-kind-preserved
loop-kind-preserved c =
    c.loop-kind.invariant
    ∙ kind_more kinds c.loop-kind.kind-index c.args.name.now DivideByZero c.loop-kind-test.true
    (ap (λ w. pointwise nat_eq w c.args.name.now) (sym (c.as_bytes.ensures.value ∙ c.name.ensures)) ∙ sym c.eq.ensures
    ∙ c.if-eq.false)

pub returns-then-eq : goal.returns-then-eq
returns-then-eq c = λ kind same.
    sym (c.loop-kind.invariant
    ∙ kind_here kinds c.loop-kind.kind-index c.args.name.now DivideByZero c.loop-kind-test.true
    (ap (λ w. pointwise nat_eq w c.args.name.now) (sym (c.as_bytes.ensures.value ∙ c.name.ensures)) ∙ sym c.eq.ensures
    ∙ c.if-eq.true))
    ∙ kind_is kind c.args.name.now same

pub returns : goal.returns
returns c = λ kind same.
    sym (c.loop-kind.invariant ∙ ap (λ ks. kind_among ks c.args.name.now)
    (drop_all c.loop-kind.kind-index kinds (omega (arith, c.loop-kind-test.false))))
    ∙ kind_is kind c.args.name.now same
