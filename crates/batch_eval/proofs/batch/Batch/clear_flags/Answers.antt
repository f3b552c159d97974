use Rattle.std.proofs.Common.{◌≡◌, ◌≤◌, ℤ, pos, Bool, if◌then◌else◌, List, ap, sym, ◌∙◌, subst, rules, arith}
use Rattle.std.proofs.lemmas.List.{places, with_items_is}
use Rattle.lambda_values.specs.Term.{truth_of}
use Rattle.lambda_values.specs.Value.{truth_value}
use Rattle.lambda_values.specs.declared.item.Item.{Item}
use Rattle.batch_eval.specs.Choices.{lane_passes}
use Rattle.batch_eval.specs.Lanes.{Reaches, at, flagged}
use Rattle.trace.specs.Stages.{filter, of_item}
use Rattle.trace.specs.Trace.{Trace, each}
use Rattle.batch_eval.specs.Batches.{flagged_walk, item_at, set_items}
use Rattle.batch_eval.proofs.RowLemmas.{lane_is, reaches_lanes}
use Rattle.batch_eval.proofs.SetItemLemmas.{connected_everywhere, filter_all, filter_connected}
use Rattle.batch_eval.proofs.batch.Batch.clear_flags.Goals as goal

pub returns-in-Some-clause-cleared : goal.returns-in-Some-clause-cleared
returns-in-Some-clause-cleared c = λ yes.
    let b = c.self.inside in
    let test = truth_of c.args.test.now in
    let env = c.args.line.env.now in
    let right = c.in-Some.right in
    let lane = lane_is b.start b.origins.items c.deref-2.result.now b.values.items c.deref.result.now c.of.result
    c.of.ensures.place c.deref-2.ensures.value c.deref.ensures.value in
    let step = filter_connected b.live b.start b.origins.items b.values.items c.args.flags.now b.end c.args.self.now
    env c.args.line.first c.connect.result test (lane_passes right) c.connect.new.out
    (λ k below. ap (λ (x : Item). truth_value test x env) (sym (lane k)) ∙ c.in-Some.ensures.passes k below)
    (connected_everywhere (at c.args.flags.now) (lane_passes right) (at c.connect.new.out) b.live c.connect.result
    c.connect.ensures) c.self.view_is in
    subst (λ (u : Trace). flagged_walk c.connect.new.out u ≡ each (of_item c.args.line.first (filter test) env)
    (set_items c.args.flags.now c.args.self.now.items) c.args.self.now.ending) c.self.view_is step

pub returns-clause-cleared : goal.returns-clause-cleared
returns-clause-cleared c = λ yes.
    let b = c.self.inside in
    let test = truth_of c.args.test.now in
    let env = c.args.line.env.now in
    let out = c.eval_bool.new.out in
    let r = c.eval_bool.result in
    let passes = c.deref-3.result.now in
    let passes_are : passes ≡ out = c.deref-3.ensures.value ∙ with_items_is b.spare out (search (rules, places)) in
    let here = reaches_lanes b.start b.origins.items c.deref-2.result.now b.values.items c.deref.result.now c.of.result
    c.of.ensures.place c.deref-2.ensures.value c.deref.ensures.value (λ x. flagged (truth_value test x env))
    (at out) b.live r c.eval_bool.ensures in
    let reaches = subst (λ (zs : List ℤ). Reaches
    (λ k. flagged (truth_value test (item_at b.start b.origins.items b.values.items k) env)) (at zs) b.live r)
    (sym passes_are) here in
    let all : b.live ≤ r.live = omega (arith, c.if-eval_bool-self.false) in
    filter_all b.live b.start b.origins.items b.values.items c.args.flags.now b.end c.args.self.now env
    c.args.line.first r test passes c.select.new.out reaches all
    (λ k below. c.select.ensures k below
    ∙ ap (λ (p : Bool). if p then at c.args.flags.now k else pos 0) (c.is_set-set.ensures (at passes k)))
    c.self.view_is
