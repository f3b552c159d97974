use Rattle.std.proofs.Common.{◌∙◌, ap, refl, sym}
use Rattle.lambda_values.specs.Streams.{inner_of, inner_value}
use Rattle.lambda_values.specs.Term.{long_of}
use Rattle.lambda_values.specs.declared.item.Item.{Item}
use Rattle.batch_eval.specs.Lanes.{at}
use Rattle.batch_eval.specs.Rows.{row_at}
use Rattle.batch_eval.proofs.FewLemmas.{of_operands, range_closed_given, range_given}
use Rattle.batch_eval.proofs.RowLemmas.{lane_is}
use Rattle.batch_eval.proofs.inner_columns.eval_columns.Goals as goal

pub returns-in-Range-clause-operands : goal.returns-in-Range-clause-operands
returns-in-Range-clause-operands c = λ k below.
    let l = c.args.items in
    let rows = c.of.result in
    let here : Item = record { origin = row_at rows k; value = at l.values.now k } in
    ap (λ (x : Item). inner_value (inner_of c.args.inner.now) x c.args.env.now)
    (sym (lane_is l.start l.places.now l.places.now l.values.now l.values.now rows c.of.ensures.place refl refl k))
    ∙ range_given (inner_of c.args.inner.now) (long_of c.in-Range.from) (long_of c.in-Range.to)
    (ap inner_of c.in-Range.is) here c.args.env.now c.eval_two.new.registers k (c.eval_two.ensures.values k below)

pub returns-in-RangeClosed-clause-operands : goal.returns-in-RangeClosed-clause-operands
returns-in-RangeClosed-clause-operands c = λ k below.
    let l = c.args.items in
    let rows = c.of.result in
    let here : Item = record { origin = row_at rows k; value = at l.values.now k } in
    ap (λ (x : Item). inner_value (inner_of c.args.inner.now) x c.args.env.now)
    (sym (lane_is l.start l.places.now l.places.now l.values.now l.values.now rows c.of.ensures.place refl refl k))
    ∙ range_closed_given (inner_of c.args.inner.now) (long_of c.in-RangeClosed.from) (long_of c.in-RangeClosed.to)
    (ap inner_of c.in-RangeClosed.is) here c.args.env.now c.eval_two-in-RangeClosed.new.registers k
    (c.eval_two-in-RangeClosed.ensures.values k below)

pub returns-in-Of-clause-operands : goal.returns-in-Of-clause-operands
returns-in-Of-clause-operands c = λ k below.
    let l = c.args.items in
    let rows = c.of.result in
    let here : Item = record { origin = row_at rows k; value = at l.values.now k } in
    ap (λ (x : Item). inner_value (inner_of c.args.inner.now) x c.args.env.now)
    (sym (lane_is l.start l.places.now l.places.now l.values.now l.values.now rows c.of.ensures.place refl refl k))
    ∙ of_operands (inner_of c.args.inner.now) c.in-Of.operands.exprs.items c.exprs.result.now (ap inner_of c.in-Of.is)
    c.exprs.ensures.value here c.args.env.now c.eval_each.new.registers k (c.eval_each.ensures.values k below)
