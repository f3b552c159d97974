use Rattle.std.proofs.Common.{◌≡◌, ◌-◌, ◌≤◌, Some}
use Rattle.trace.specs.declared.item.End.TheVariants as end
use Rattle.trace.specs.declared.sink.Flow.TheVariants as flow
use Rattle.trace.specs.declared.feeding.Fed.TheVariants as fed
use Rattle.trace.specs.Trace.{trace}
use Rattle.job_plan.specs.Parts.{walk_in}
use Rattle.prefix_walks.specs.Pieces.{IsNotAfter, elements}
use Rattle.batch_eval.specs.Pipelines.{piped}
use Rattle.job_plan.specs.Stretches.{IsWalked}
use Rattle.job_plan.proofs.stretches.feed_stretches.Given as goal

abbrev pub invariant-loop-next : goal.invariant-loop-next
invariant-loop-next g l =
    record {
      after : l.window.from ≤ l.position;
      within : IsNotAfter l.position l.window.to;
      wants : g.S.LongSink.flow l.sink ≡ flow.More;
      fed : IsWalked g.S.LongSink.has_taken (λ ys. piped l.line (trace ys end.Done))
          (elements l.window.from (Some l.position) (walk_in l.source).items) l.initial.sink fed.More l.sink;
    }

abbrev pub decreases-loop-next : goal.decreases-loop-next
decreases-loop-next g l = l.end - l.position
