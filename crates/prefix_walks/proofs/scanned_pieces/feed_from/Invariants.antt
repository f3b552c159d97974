use Rattle.std.proofs.Common.{◌≡◌, ◌+◌, ◌<◌, ◌^◌, ◌++◌, List, All, length, drop, Ok}
use Rattle.lambda_values.specs.declared.item.Item.{Item}
use Rattle.trace.specs.declared.item.End.TheVariants as end
use Rattle.trace.specs.declared.sink.Flow.TheVariants as flow
use Rattle.trace.specs.declared.feeding.Fed.TheVariants as fed
use Rattle.trace.specs.Sinks.{IsFed}
use Rattle.trace.specs.Trace.{trace}
use Rattle.reduce_ops.specs.Operators.{value_of}
use Rattle.prefix_scan.specs.Scans.{scan_at}
use Rattle.prefix_walks.specs.Pieces.{elements}
use Rattle.batch_eval.specs.Pipelines.{piped}
use Rattle.prefix_walks.specs.Scans.{IsFolded, all_items}
use Rattle.prefix_walks.proofs.scanned_pieces.feed_from.Given as goal

abbrev pub invariant-loop-piece : goal.invariant-loop-piece
invariant-loop-piece g l = (g.S.LongSink.flow l.sink ≡ flow.More)
    × ((xs : List Item) → g.S.LongSink.has_taken l.initial.sink xs → (done : List Item)
    × IsFed g.S.LongSink.has_taken xs (piped l.line (trace done end.Done)) (Ok fed.More) l.sink
    × (done ++ elements l.left.from l.left.to
    (scan_at (value_of l.here.prefix.op) l.here.prefix.range l.here.position l.here.start
    (all_items (drop l.piece-index l.pieces)))
    ≡ elements l.fn.window.from l.fn.window.to (scan_at (value_of l.fn.scan.prefix.op) l.fn.scan.prefix.range
    l.fn.scan.position l.fn.scan.start (all_items l.pieces))))
    × (l.here.position + length (all_items (drop l.piece-index l.pieces)) < 2 ^ 64)
    × All (IsFolded l.here.prefix.op) l.pieces
