use Rattle.std.proofs.Common.{◌+◌, ◌*◌, None}
use Rattle.lambda_values.specs.Streams.{inner_of}
use Rattle.batch_eval.specs.Batches.{item_at, lanes, origin_at}
use Rattle.batch_eval.specs.InnerColumns.{ArePut}
use Rattle.batch_eval.proofs.few.put_rows.Given as goal

abbrev pub invariant-loop-item : goal.invariant-loop-item
invariant-loop-item g l = ArePut (inner_of l.columns.inner.now) l.columns.registers.now l.places.from
    (origin_at l.places.start l.places.listed.now) (lanes l.first (item_at None l.initial.origins l.initial.values))
    l.item (l.first + l.item * l.operands) (item_at None l.origins l.values)
