use Rattle.std.proofs.Common.{◌≡◌, take}
use Rattle.trace.specs.declared.item.End.TheVariants as end
use Rattle.trace.specs.Trace.{Trace, trace, append}
use Rattle.reduce_ops.specs.Reaches.{IsExact, is_search}
use Rattle.reduce_ops.proofs.exact.Exact.push_all.Given as goal

abbrev pub invariant-loop-position : goal.invariant-loop-position
invariant-loop-position g l =
    record {
      stands : (t : Trace) → IsExact l.stage t l.initial.self
          → IsExact l.stage (append t (trace (take l.position (g.I.SourceItems.items l.source)) end.Done)) l.self;
      search : is_search l.self ≡ is_search l.initial.self;
    }
