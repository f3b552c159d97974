use Rattle.std.proofs.Common.{ap, ◌∙◌, rules}
use Rattle.std.proofs.lemmas.List.{places, with_items_is}
use Rattle.lambda_values.specs.Term.{long_of}
use Rattle.lambda_values.specs.Value.{long_value}
use Rattle.batch_eval.specs.Lanes.{at}
use Rattle.batch_eval.proofs.RowLemmas.{reaches_lanes}
use Rattle.batch_eval.proofs.Walks.{batch_mapped}
use Rattle.batch_eval.proofs.batch.Batch.map.Goals as goal

pub returns : goal.returns
returns c =
    let b = c.self.inside in
    let out = c.eval_long-reached.new.out in
    let images = with_items_is b.spare out (search (rules, places)) in
    let image = long_of c.args.image.now in
    let env = c.args.line.env.now in
    let reaches = reaches_lanes b.start b.origins.items c.deref-2.result.now b.values.items c.deref.result.now
    c.of.result c.of.ensures.place c.deref-2.ensures.value c.deref.ensures.value (λ x. long_value image x env)
    (at out) b.live c.eval_long-reached.result c.eval_long-reached.ensures in
    batch_mapped env c.args.line.first b.live b.start b.origins.items b.values.items b.end c.args.self.now
    c.eval_long-reached.result out image c.swap.new.x.items c.deref-3.result.now c.stopped-self-inside.result
    reaches (ap (λ v. v.items) c.swap.ensures.x_after ∙ images) c.deref-3.ensures.value
    c.stopped-self-inside.ensures c.self.view_is
