use Rattle.std.proofs.Common.{◌≡◌, length, sym, ap, ◌∙◌, add-one}
use Rattle.lambda_values.specs.Term.{long_of}
use Rattle.trace.specs.declared.item.End.TheVariants as end
use Rattle.trace.specs.Trace.{Trace}
use Rattle.batch_eval.specs.Batches.{item_at}
use Rattle.batch_eval.specs.BatchItems.{laid}
use Rattle.batch_eval.proofs.Items.{length_lanes}
use Rattle.batch_eval.proofs.SetItemLemmas.{each_imaged}
use Rattle.batch_eval.proofs.batch.Batch.map_lanes.Goals as goal

pub returns-then-self-lanes-clause-images : goal.returns-then-self-lanes-clause-images
returns-then-self-lanes-clause-images c = λ all flags e.
    let split = c.in-Some-Map-default.ensures in
    let image = long_of c.in-Some-Map-default.image in
    let env = c.args.line.env.now in
    let l = c.args.lanes in
    let here = c.self.inside in
    let old : length (laid l) ≡ length l.values.now =
    length_lanes (length l.values.now) (item_at l.start l.places.now l.values.now) in
    let new : length c.map_from.new.self.items ≡ here.live =
    ap (λ (u : Trace). length u.items) (sym c.self.view_is)
    ∙ length_lanes here.live (item_at here.start here.origins.items here.values.items) in
    let live : here.live ≡ length l.values.now = c.if-self-lanes.true in
    let one = each_imaged image env c.args.line.first (laid l) c.map_from.new.self.items end.Done
    c.map_from.new.self.ending (sym c.map_from.ensures) (new ∙ live ∙ sym old) flags e in
    let on = rw (split.first, split.env, add-one) at (c.map_all.ensures.images all flags e) in
    rw (split.stages, c.in-Some-Map-default.field-0-0-is, one) on

pub returns-then-self-lanes-clause-count : goal.returns-then-self-lanes-clause-count
returns-then-self-lanes-clause-count c = λ all.
    let l = c.args.lanes in
    let here = c.self.inside in
    let new : length c.map_from.new.self.items ≡ here.live =
    ap (λ (u : Trace). length u.items) (sym c.self.view_is)
    ∙ length_lanes here.live (item_at here.start here.origins.items here.values.items) in
    let live : here.live ≡ length l.values.now = c.if-self-lanes.true in
    c.map_all.ensures.count all ∙ new ∙ live
