use Rattle.lambda_values.specs.Term.{truth_of}
use Rattle.lambda_values.specs.Value.{truth_value}
use Rattle.batch_eval.specs.Lanes.{at, flagged}
use Rattle.batch_eval.proofs.RowLemmas.{reaches_lanes}
use Rattle.batch_eval.proofs.SetItemLemmas.{filter_flagged}
use Rattle.batch_eval.proofs.batch.Batch.flag_lanes.Goals as goal

pub returns : goal.returns
returns c =
    let b = c.self.inside in
    let r = c.eval_bool-reached.result in
    let flags = c.eval_bool-reached.new.out in
    let test = truth_of c.args.test.now in
    let env = c.args.line.env.now in
    let reaches = reaches_lanes b.start b.origins.items c.deref-2.result.now b.values.items c.deref.result.now
    c.of.result c.of.ensures.place c.deref-2.ensures.value c.deref.ensures.value
    (λ x. flagged (truth_value test x env)) (at flags) b.live r c.eval_bool-reached.ensures in
    let whole = filter_flagged b.live b.start b.origins.items b.values.items flags b.end c.args.self.now env
    c.args.line.first r test reaches c.self.view_is in
    rw (c.stopped-self-inside.ensures, c.deref-3.ensures.value) whole
