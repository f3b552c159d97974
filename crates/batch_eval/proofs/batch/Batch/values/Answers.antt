use Rattle.std.proofs.Common.{◌≤◌, length, map, take, sym, ap, ◌∙◌, arith}
use Rattle.lambda_values.specs.declared.item.Item.{Item}
use Rattle.trace.specs.Trace.{Trace}
use Rattle.batch_eval.proofs.Items.{lane_values}
use Rattle.batch_eval.proofs.batch.Batch.values.Goals as goal

pub returns : goal.returns
returns c =
    let b = c.self.inside in
    let within : b.live ≤ length b.values.items =
    omega (arith, c.self.invariant.live_lanes, c.self.invariant.values_length) in
    ap (take b.live) c.deref.ensures.value ∙ sym (lane_values b.live b.start b.origins.items b.values.items within)
    ∙ ap (λ (t : Trace). map (λ (x : Item). x.value) t.items) c.self.view_is
