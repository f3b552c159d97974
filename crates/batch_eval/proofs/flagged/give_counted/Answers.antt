use Rattle.std.proofs.Common.{◌≡◌, ◌≤◌, ◌+ℤ◌, ◌∙◌, ℕ, ℤ, List, Some, [], ap, arith, pos, rules, of_z, subst, sym, take}
use Rattle.std.proofs.Common.{to_z, w64}
use Rattle.lambda_values.specs.Wrap.{wrap}
use Rattle.lambda_values.specs.declared.item.Item.{Item}
use Rattle.trace.specs.declared.item.End.TheVariants as end
use Rattle.trace.specs.Sinks.{IsFed}
use Rattle.trace.specs.Stages.{filter, of_item}
use Rattle.trace.specs.Trace.{Trace, each}
use Rattle.batch_eval.specs.Batches.{counted_item, flagged_items, gathered, holds}
use Rattle.batch_eval.specs.Lanes.{at, flag_of, is_set}
use Rattle.batch_eval.proofs.FlaggedLemmas.{flags_cut}
use Rattle.batch_eval.proofs.PlaceLemmas.{lanes_counted}
use Rattle.batch_eval.proofs.Walks.{each_filtered, kept_if}
use Rattle.batch_eval.proofs.flagged.give_counted.Goals as goal

pub returns-clause-fed : goal.returns-clause-fed
returns-clause-fed g c = λ test reaches xs took.
    let r = c.args.range.now in
    let flags = c.args.register.now in
    let set = holds c.args.found.0 in
    let env = c.args.line.env.now in
    let stage = c.args.line.first in
    let h = g.S.LongSink.has_taken in
    let lane = counted_item r.origin r.first in
    let whole = each_filtered test env stage r.count lane (λ k. flag_of (set (at flags k))) c.args.found.1 end.Done
    reaches in
    let within : c.args.found.1.live ≤ r.count = c.requires.within in
    let first = to_z w64 (of_z w64 r.first) in
    let same : first ≡ r.first = search rules in
    let live = c.args.found.1.live in
    let origins : List ℕ = [] in
    let cut = subst (λ (z : ℤ). flagged_items set (Some r.origin) origins (λ k. wrap (first +ℤ pos k)) (take live flags)
    ≡ gathered live (λ k. kept_if (is_set (flag_of (set (at flags k)))) (counted_item r.origin z k))) same
    (flags_cut set (Some r.origin) origins (λ k. wrap (first +ℤ pos k)) flags live
    (omega (arith, within, c.requires.register))) in
    let walk = sym (ap (λ (ys : List Item). each (of_item stage (filter test) env) ys end.Done)
    (lanes_counted r.origin r.first r.count r.in_range)) ∙ whole in
    let fed = rw (cut, c.stopped-end.ensures) at (c.give_flagged.ensures.fed xs took) in
    subst (λ (t : Trace). IsFed h xs t c.give_flagged.result c.give_flagged.new.sink) (sym walk) fed
