use Rattle.std.proofs.Common.{None}
use Rattle.lambda_values.specs.Streams.{inner_of}
use Rattle.batch_eval.specs.Batches.{item_at, lanes, origin_at}
use Rattle.batch_eval.specs.InnerColumns.{ArePut}
use Rattle.batch_eval.proofs.few.put_ranges.Given as goal

abbrev pub invariant-loop-items : goal.invariant-loop-items
invariant-loop-items g l = ArePut (inner_of l.columns.inner.now) l.columns.registers.now l.places.from
    (origin_at l.places.start l.places.listed.now) (lanes l.first (item_at None l.initial.origins l.initial.values))
    l.items l.next (item_at None l.origins l.values)
