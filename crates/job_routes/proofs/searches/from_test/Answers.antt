use Rattle.std.proofs.Common.{refl, ap, ◌∙◌}
use Rattle.lambda_values.specs.Term.{truth_of}
use Rattle.trace.specs.Trace.{Trace}
use Rattle.job_meaning.specs.Walks.{source_walk}
use Rattle.job_routes.specs.declared.route.PlaceSide.TheVariants as side
use Rattle.job_routes.specs.Legs.{leg_in, outcome_of, searched, segment_in, walk_through}
use Rattle.job_routes.proofs.LeftLemmas.{drop_window, test_left}
use Rattle.job_routes.proofs.searches.from_test.Goals as goal

pub returns : goal.returns
returns c = λ env ss.
    let s = c.args.stages in
    let p = truth_of c.args.test in
    let w = c.args.leg.now.window in
    let copied = c.requires.ready.copied in
    let left : Trace = searched side.From (leg_in c.in_ok-search.search) env (source_walk ss) in
    c.in_ok-go_on.ensures env left
    ∙ ap (outcome_of (segment_in c.args.leg.now.last) env)
    (c.in_ok-pass_over.ensures.walk env left
    ∙ ap (walk_through s env)
    (test_left side.From w s c.args.copy p p c.in_ok-search.search copied refl c.in_ok-search.ensures.finds env
    (source_walk ss))
    ∙ drop_window s c.args.copy copied env w ss p)
