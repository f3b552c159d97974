use Rattle.std.proofs.Common.{◌≡◌, ◌-◌, ◌≤◌, ◌∙◌, ℕ, Bool, List, ap, length, refl, sym, subst, arith}
use Rattle.lambda_values.specs.Term.{truth_of}
use Rattle.lambda_values.specs.Value.{truth_value}
use Rattle.lambda_values.specs.declared.item.Item.{Item}
use Rattle.trace.specs.Trace.{Trace, trace}
use Rattle.trace.specs.Sinks.{IsFed}
use Rattle.batch_eval.specs.Lanes.{at, flag_of, flagged, is_set}
use Rattle.batch_eval.specs.Batches.{end_after, holds, item_at, origin_at}
use Rattle.batch_eval.specs.Pipelines.{piped}
use Rattle.batch_eval.proofs.FlaggedLemmas.{flags_cut}
use Rattle.batch_eval.proofs.RowLemmas.{counts_of, reaches_lanes}
use Rattle.batch_eval.proofs.SetItemLemmas.{flags_by, set_front}
use Rattle.batch_eval.proofs.Walks.{each_filtered}
use Rattle.batch_eval.proofs.flagged.give_passing.Goals as goal

pub returns-clause-fed : goal.returns-clause-fed
returns-clause-fed g c = λ later images xs took.
    let r = c.flags_of.result.2 in
    let flags = c.flags_of.result.0.now in
    let set = holds c.flags_of.result.1 in
    let h = g.S.LongSink.has_taken in
    let l = c.args.tested.lanes in
    let i = c.args.tested.images in
    let lane = item_at l.start l.places.now l.values.now in
    let image = item_at i.start i.places.now i.values.now in
    let test = truth_of c.args.test.now in
    let env = c.args.line.env.now in
    let reaches = reaches_lanes l.start l.places.now l.places.now l.values.now l.values.now c.of.result
    c.of.ensures.place refl refl (λ x. flagged (truth_value test x env)) (λ k. flag_of (set (at flags k)))
    (length l.values.now) r c.flags_of.ensures.reached in
    let whole = each_filtered test env c.args.line.first (length l.values.now) lane (λ k. flag_of (set (at flags k))) r
    c.args.tested.end reaches in
    let within : r.live ≤ length flags = omega (arith, c.flags_of.ensures.reached.within, c.flags_of.ensures.flags) in
    let cut = flags_cut set i.start i.places.now (at i.values.now) flags r.live within in
    let e = end_after c.args.tested.end c.args.line.first (origin_at l.start l.places.now r.live) r.fault in
    let p : ℕ → Bool = λ k. is_set (flag_of (set (at flags k))) in
    let chosen = set_front p lane r.live (length l.values.now) c.flags_of.ensures.reached.within in
    let same : length i.values.now ≡ length l.values.now = c.args.tested.each_has_one in
    let given = set_front p image r.live (length i.values.now)
    (omega (arith, same, c.flags_of.ensures.reached.within)) in
    let walked = ap (λ (ys : List Item). piped later (trace ys e)) (sym chosen) ∙ images (flags_by p r.live) e
    ∙ ap (λ (ys : List Item). trace ys e) given in
    let fed = rw (cut, c.stopped-end.ensures) at (c.give_flagged.ensures.fed xs took) in
    let here = subst (λ (t : Trace). IsFed h xs t c.give_flagged.result c.give_flagged.new.sink) (sym walked) fed in
    subst (λ (t : Trace). IsFed h xs (piped later t) c.give_flagged.result c.give_flagged.new.sink) (sym whole) here

pub flags_of-requires-clause-rows : goal.flags_of-requires-clause-rows
flags_of-requires-clause-rows g c =
    let l = c.args.tested.lanes in
    c.of.ensures.has (length l.values.now) (counts_of l.start (length l.values.now) l.counts)
    (λ is. let same = l.listed is in omega arith)

pub flags_of-requires-clause-room : goal.flags_of-requires-clause-room
flags_of-requires-clause-room g c =
    let rest : length c.split_at_mut-flags.result.1.now ≡ length c.args.room.now - 1024 =
    omega (arith, c.split_at_mut-flags.ensures.back_len) in
    rw rest c.requires.room
