use Rattle.std.proofs.Common.{None, ap, length, refl}
use Rattle.lambda_values.specs.Streams.{inner_of}
use Rattle.batch_eval.specs.Batches.{item_at, lanes, origin_at}
use Rattle.batch_eval.proofs.FewLemmas.{empty_put, of_rows}
use Rattle.batch_eval.proofs.few.put_values.Goals as goal

pub put_rows-requires-clause-kind : goal.put_rows-requires-clause-kind
put_rows-requires-clause-kind c = of_rows (inner_of c.args.columns.inner.now) c.in-Of.operands.exprs.items
    c.exprs.result.now 1 (ap inner_of c.in-Of.is) c.exprs.ensures.value c.in-1.is c.args.columns.registers.now

pub put_rows-requires-in-2-clause-kind : goal.put_rows-requires-in-2-clause-kind
put_rows-requires-in-2-clause-kind c = of_rows (inner_of c.args.columns.inner.now) c.in-Of.operands.exprs.items
    c.exprs.result.now 2 (ap inner_of c.in-Of.is) c.exprs.ensures.value c.in-2.is c.args.columns.registers.now

pub put_rows-requires-in-3-clause-kind : goal.put_rows-requires-in-3-clause-kind
put_rows-requires-in-3-clause-kind c = of_rows (inner_of c.args.columns.inner.now) c.in-Of.operands.exprs.items
    c.exprs.result.now 3 (ap inner_of c.in-Of.is) c.exprs.ensures.value c.in-3.is c.args.columns.registers.now

pub put_rows-requires-in-4-clause-kind : goal.put_rows-requires-in-4-clause-kind
put_rows-requires-in-4-clause-kind c = of_rows (inner_of c.args.columns.inner.now) c.in-Of.operands.exprs.items
    c.exprs.result.now 4 (ap inner_of c.in-Of.is) c.exprs.ensures.value c.in-4.is c.args.columns.registers.now

pub returns-in-0-clause-put : goal.returns-in-0-clause-put
returns-in-0-clause-put c =
    let registers = c.args.columns.registers.now in
    let item = item_at None c.args.origins.now c.args.values.now in
    empty_put (inner_of c.args.columns.inner.now) registers c.args.places.from
    (origin_at c.args.places.start c.args.places.listed.now) (lanes c.args.first item) c.saturating_sub.result
    c.args.first item (of_rows (inner_of c.args.columns.inner.now) c.in-Of.operands.exprs.items c.exprs.result.now 0
    (ap inner_of c.in-Of.is) c.exprs.ensures.value c.in-0.is registers) c.requires.first refl

pub put_rows-requires-in_default-clause-kind : goal.put_rows-requires-in_default-clause-kind
put_rows-requires-in_default-clause-kind c =
    of_rows (inner_of c.args.columns.inner.now) c.in-Of.operands.exprs.items c.exprs.result.now
    (length c.exprs.result.now) (ap inner_of c.in-Of.is) c.exprs.ensures.value refl c.args.columns.registers.now
