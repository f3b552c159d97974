use Rattle.std.proofs.Common.{◌≤◌, add-one, ap, ◌∙◌, rules, arith}
use Rattle.std.proofs.lemmas.List.{places, with_items_is}
use Rattle.lambda_values.specs.Term.{long_of}
use Rattle.lambda_values.specs.Value.{long_value}
use Rattle.batch_eval.specs.Lanes.{at}
use Rattle.batch_eval.proofs.RowLemmas.{reaches_lanes}
use Rattle.batch_eval.proofs.SetItemLemmas.{map_all}
use Rattle.batch_eval.proofs.batch.Batch.+sift.Goals as goal

pub returns-else-eval_long-self-clause-walk : goal.returns-else-eval_long-self-clause-walk
returns-else-eval_long-self-clause-walk t c =
    let b = c.self.inside in
    let split = c.in-Some-Map-default.ensures in
    let image = long_of c.in-Some-Map-default.image in
    let env = c.args.line.env.now in
    let out = c.eval_long.new.out in
    let r = c.eval_long.result in
    let reaches = reaches_lanes b.start b.origins.items c.deref-2.result.now b.values.items c.deref.result.now
    c.of.result c.of.ensures.place c.deref-2.ensures.value c.deref.ensures.value (λ x. long_value image x env)
    (at out) b.live r c.eval_long.ensures in
    let all : b.live ≤ r.live = omega (arith, c.if-eval_long-self.false) in
    let step = map_all b.live b.start b.origins.items b.values.items c.args.flags.now b.end c.args.self.now env
    c.args.line.first r image out reaches all c.self.view_is in
    let images = ap (λ v. v.items) c.swap.ensures.x_after ∙ with_items_is b.spare out (search (rules, places)) in
    let on = rw (images, step, split.first, split.env, add-one) at c.sift.ensures.walk in
    rw (split.stages, c.in-Some-Map-default.field-0-0-is) on

pub returns-else-not-clear_flags-clause-walk : goal.returns-else-not-clear_flags-clause-walk
returns-else-not-clear_flags-clause-walk t c =
    let split = c.in-Some-Filter-default.ensures in
    let step = c.clear_flags.ensures.cleared c.if-not-clear_flags.false in
    let on = rw (step, split.first, split.env, add-one) at c.sift-in-Some-Filter-default.ensures.walk in
    rw (split.stages, c.in-Some-Filter-default.field-0-0-is) on
