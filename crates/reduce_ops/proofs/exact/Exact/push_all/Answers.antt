use Rattle.std.proofs.Common.{◌≤◌, List, length, take, subst, ◌∙◌, arith}
use Rattle.std.proofs.lemmas.List.{take_all}
use Rattle.lambda_values.specs.declared.item.Item.{Item}
use Rattle.trace.specs.declared.item.End.TheVariants as end
use Rattle.trace.specs.Trace.{Trace, trace, append}
use Rattle.reduce_ops.specs.Reaches.{IsExact}
use Rattle.reduce_ops.proofs.ExactLemmas.{appended_more}
use Rattle.reduce_ops.proofs.exact.Exact.push_all.Goals as goal

pub loop-position-preserved : goal.loop-position-preserved
loop-position-preserved g c = record {
  stands = λ t h.
      let xs = g.I.SourceItems.items c.args.source.now in
      subst (λ (u : Trace). IsExact c.args.stage u c.push.new.self)
      (appended_more t xs c.loop-position.position c.item_at.result c.item_at.ensures)
      (c.push.ensures.stands (append t (trace (take c.loop-position.position xs) end.Done))
      (c.loop-position.invariant.stands t h));
  search = c.push.ensures.search ∙ c.loop-position.invariant.search;
}

pub returns-clause-stands : goal.returns-clause-stands
returns-clause-stands g c = λ t h.
    let xs = g.I.SourceItems.items c.args.source.now in
    let all : length xs ≤ c.loop-position.position =
    omega (arith, c.loop-position-test.false, c.count-position-end.ensures) in
    subst (λ (ys : List Item). IsExact c.args.stage (append t (trace ys end.Done)) c.loop-position.self)
    (take_all c.loop-position.position xs all) (c.loop-position.invariant.stands t h)
