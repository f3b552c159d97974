use Rattle.std.proofs.Common.{◌≡◌, sym, ap, subst, ◌∙◌}
use Rattle.batch_eval.specs.Pipelines.{piped}
use Rattle.batch_eval.specs.declared.pipeline.Pipeline.{Pipeline}
use Rattle.lambda_values.specs.Earlier.{Numbers}
use Rattle.slice_ops.specs.Slices.{slice_of, sliced}
use Rattle.trace.specs.Trace.{Trace}
use Rattle.job_routes.specs.Legs.{links_in, number_after, linked}
use Rattle.job_plan.specs.Parts.{walk_in}
use Rattle.job_plan.proofs.PassageLemmas.{if_ok_map}
use Rattle.job_plan.proofs.nest.NextNest.feed.Goals as goal

pub returns-in-Some : goal.returns-in-Some
returns-in-Some g c =
    let chain = c.args.chain in
    let env = chain.line.env.now in
    let t = walk_in c.args.source.now in
    let last = c.in-Some.last in
    let link = last.link.now in
    let before = last.before in
    let through : Pipeline → Numbers → Trace = λ line e. piped line (sliced (slice_of link.slice)
    (number_after link.stages) line.env.now (piped before.line (linked (links_in before.links.now) e t))) in
    let next : chain.line ≡ last.next = sym c.in-Some.ensures.next in
    let whole : piped chain.line (linked (links_in chain.links.now) env t) ≡ through last.next before.line.env.now =
    ap (piped chain.line) (c.in-Some.ensures.walk t) ∙ (λ i. through (next i) (sym c.in-Some.ensures.env i)) in
    if_ok_map _ _ c.feed_link.result (λ made stands. subst (λ (u : Trace). g.S.Closing.stands made u) (sym whole)
    stands)
    c.feed_link.ensures
