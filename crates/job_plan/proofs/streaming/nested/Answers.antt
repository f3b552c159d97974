use Rattle.std.proofs.Common.{subst, ◌∙◌}
use Rattle.batch_eval.specs.Pipelines.{piped}
use Rattle.trace.specs.Trace.{Trace}
use Rattle.job_plan.specs.Parts.{GoesOnFrom, walk_in}
use Rattle.job_routes.specs.Legs.{end_in, leg_in, links_in, linked}
use Rattle.job_plan.proofs.PassageLemmas.{begun_with, if_ok_map}
use Rattle.job_plan.proofs.streaming.nested.Goals as goal

pub feed-requires-clause-begun : goal.feed-requires-clause-begun
feed-requires-clause-begun g c =
    let k = g.K.EndBrand in (
      c.requires.last,
      c.next.ensures ∙ c.requires.stage,
      c.requires.env,
      begun_with (end_in k.last) k.stage k.env c.args.none k.begun c.requires.begun,
    )

pub returns : goal.returns
returns g c =
    let k = g.K.EndBrand in
    let leg = c.args.leg.now in
    let line = c.pipeline.result in
    let t = walk_in c.args.walked.source in
    let whole = (λ i. piped line (linked (links_in (c.deref.ensures.value i)) (c.pipeline.ensures.env i) t))
    ∙ c.pipeline.ensures.walk (linked (leg_in leg).links c.args.walked.env.now t) in
    if_ok_map _ _ c.feed.result
    (λ part on. subst (λ (u : Trace). GoesOnFrom (end_in k.last) k.stage k.env k.begun part u) whole on)
    c.feed.ensures
