use Rattle.std.proofs.Common.{◌≡◌, length, sym, ap, ◌∙◌, add-one}
use Rattle.lambda_values.specs.Term.{long_of}
use Rattle.trace.specs.Trace.{Trace}
use Rattle.batch_eval.specs.Batches.{item_at}
use Rattle.batch_eval.proofs.Items.{length_lanes}
use Rattle.batch_eval.proofs.SetItemLemmas.{each_imaged}
use Rattle.batch_eval.proofs.batch.Batch.+map_all.Goals as goal

pub returns-then-self-live-clause-images : goal.returns-then-self-live-clause-images
returns-then-self-live-clause-images t c = λ all flags e.
    let split = c.in-Some-Map-default.ensures in
    let image = long_of c.in-Some-Map-default.image in
    let env = c.args.line.env.now in
    let before = c.self.inside in
    let here = c.self-in-Some-Map-default.inside in
    let old : length c.args.self.now.items ≡ before.live =
    ap (λ (u : Trace). length u.items) (sym c.self.view_is)
    ∙ length_lanes before.live (item_at before.start before.origins.items before.values.items) in
    let new : length c.map.new.self.items ≡ here.live =
    ap (λ (u : Trace). length u.items) (sym c.self-in-Some-Map-default.view_is)
    ∙ length_lanes here.live (item_at here.start here.origins.items here.values.items) in
    let live = c.if-self-live.true in
    let same : length c.map.new.self.items ≡ length c.args.self.now.items = new ∙ live ∙ sym old in
    let one = each_imaged image env c.args.line.first c.args.self.now.items c.map.new.self.items c.args.self.now.ending
    c.map.new.self.ending (sym c.map.ensures) same flags e in
    let on = rw (split.first, split.env, add-one) at (c.map_all.ensures.images all flags e) in
    rw (split.stages, c.in-Some-Map-default.field-0-0-is, one) on

pub returns-then-self-live-clause-count : goal.returns-then-self-live-clause-count
returns-then-self-live-clause-count t c = λ all.
    let before = c.self.inside in
    let here = c.self-in-Some-Map-default.inside in
    let old : length c.args.self.now.items ≡ before.live =
    ap (λ (u : Trace). length u.items) (sym c.self.view_is)
    ∙ length_lanes before.live (item_at before.start before.origins.items before.values.items) in
    let new : length c.map.new.self.items ≡ here.live =
    ap (λ (u : Trace). length u.items) (sym c.self-in-Some-Map-default.view_is)
    ∙ length_lanes here.live (item_at here.start here.origins.items here.values.items) in
    c.map_all.ensures.count all ∙ new ∙ c.if-self-live.true ∙ sym old
