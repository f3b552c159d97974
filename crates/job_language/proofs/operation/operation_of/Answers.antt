use Rattle.std.proofs.Common.{ap, sym, ◌∙◌}
use Rattle.std.specs.Prelude.{nat_eq}
use Rattle.std.specs.Cmp.Lexicographic.{pointwise}
use Rattle.job_language.specs.declared.operation.Operation.TheVariants.{Range}
use Rattle.job_language.specs.Table.{operations}
use Rattle.job_language.proofs.Names.{row_here, row_more}
use Rattle.job_language.proofs.operation.operation_of.Goals as goal

pub loop-operation-preserved : goal.loop-operation-preserved
loop-operation-preserved c = c.loop-operation.invariant
    ∙ row_more operations c.loop-operation.operation-index c.args.name.now Range c.loop-operation-test.true
    (ap (pointwise nat_eq c.args.name.now) (sym (c.as_bytes.ensures.value ∙ c.row.ensures.name)) ∙ sym c.eq.ensures
    ∙ c.if-eq.false)

pub returns-then-eq : goal.returns-then-eq
returns-then-eq c = sym (c.loop-operation.invariant
    ∙ row_here operations c.loop-operation.operation-index c.args.name.now Range c.loop-operation-test.true
    (ap (pointwise nat_eq c.args.name.now) (sym (c.as_bytes.ensures.value ∙ c.row.ensures.name)) ∙ sym c.eq.ensures
    ∙ c.if-eq.true))
