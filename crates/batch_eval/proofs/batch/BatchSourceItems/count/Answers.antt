use Rattle.std.proofs.Common.{length, sym, ap, ◌∙◌}
use Rattle.trace.specs.Trace.{Trace}
use Rattle.batch_eval.specs.Batches.{item_at}
use Rattle.batch_eval.proofs.Items.{length_lanes}
use Rattle.batch_eval.proofs.batch.BatchSourceItems.count.Goals as goal

pub returns : goal.returns
returns c =
    let b = c.self.inside in
    sym (length_lanes b.live (item_at b.start b.origins.items b.values.items))
    ∙ ap (λ (t : Trace). length t.items) c.self.view_is
