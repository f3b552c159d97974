use Rattle.std.proofs.Common.{ap, ◌∙◌}
use Rattle.slice_ops.specs.Slices.{skipped}
use Rattle.trace.specs.Trace.{Trace}
use Rattle.job_meaning.specs.Walks.{source_walk}
use Rattle.job_routes.specs.declared.route.PlaceSide.TheVariants as side
use Rattle.job_routes.specs.Legs.{leg_in, outcome_of, searched, segment_in, walk_through}
use Rattle.job_routes.proofs.LeftLemmas.{search_left, skip_window}
use Rattle.job_routes.proofs.searches.after_skip.Goals as goal

pub returns : goal.returns
returns c = λ env ss.
    let s = c.args.stages in
    let w = c.args.leg.now.window in
    let copied = c.requires.ready.copied in
    let left : Trace = searched side.From (leg_in c.in_ok-search.search) env (source_walk ss) in
    c.in_ok-go_on.ensures env left
    ∙ ap (outcome_of (segment_in c.args.leg.now.last) env)
    (c.in_ok-pass_over.ensures.walk env left
    ∙ ap (walk_through s env)
    (search_left side.From w s c.args.copy (λ env t. skipped c.args.count t) c.in_ok-search.search copied
    c.in_ok-search.ensures env (source_walk ss))
    ∙ skip_window s c.args.copy copied env w ss c.args.count)
