use Rattle.std.proofs.Common.{◌≡◌, List, ◌++◌, take}
use Rattle.lambda_values.specs.declared.item.Item.{Item}
use Rattle.trace.specs.declared.sink.Flow.TheVariants as flow
use Rattle.batch_eval.proofs.sink.accept_each.Given as goal

abbrev pub invariant-loop-position : goal.invariant-loop-position
invariant-loop-position g l =
    record {
      wants : g.S.LongSink.flow l.sink ≡ flow.More;
      taken : (xs : List Item) → g.S.LongSink.has_taken l.initial.sink xs
          → g.S.LongSink.has_taken l.sink (xs ++ take l.position (g.I.SourceItems.items l.source));
    }
