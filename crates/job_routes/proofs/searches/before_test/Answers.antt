use Rattle.std.proofs.Common.{ap, ◌∙◌}
use Rattle.lambda_values.specs.Term.{truth_of}
use Rattle.trace.specs.Stages.{filter, through}
use Rattle.trace.specs.Trace.{Trace}
use Rattle.job_meaning.specs.Walks.{source_walk}
use Rattle.job_routes.specs.declared.route.PlaceSide.TheVariants as side
use Rattle.job_routes.specs.Legs.{leg_in, number_after, outcome_of, searched, segment_in, walk_through}
use Rattle.job_routes.proofs.LeftLemmas.{calm_ending, calm_window, take_window, test_left}
use Rattle.job_routes.proofs.searches.before_test.Goals as goal

pub returns : goal.returns
returns c = λ env ss.
    let s = c.args.stages in
    let p = truth_of c.args.test in
    let w = c.args.leg.now.window in
    let copied = c.requires.ready.copied in
    let left : Trace = searched side.Before (leg_in c.in_ok-search.search) env (source_walk ss) in
    c.in_ok-go_on-2.ensures env left
    ∙ ap (outcome_of (segment_in c.args.leg.now.last) env)
    (c.in_ok-push.ensures.walk env left
    ∙ ap (λ (t : Trace). through (number_after s) (filter p) env (walk_through s env t))
    (test_left side.Before w s c.args.copy p (truth_of c.in_ok-same.same) c.in_ok-search.search copied
    c.in_ok-same.ensures c.in_ok-search.ensures.finds env (source_walk ss))
    ∙ take_window s c.args.copy copied env w ss p)

pub returns-then-are_faultless : goal.returns-then-are_faultless
returns-then-are_faultless c = λ env ss.
    let s = c.args.stages in
    let p = truth_of c.args.test in
    let q = truth_of c.in_ok-same.same in
    let w = c.args.leg.now.window in
    let copied = c.requires.ready.copied in
    let search = c.in_ok-search.search in
    let left : Trace = searched side.Before (leg_in search) env (source_walk ss) in
    let calm = rw c.deref.ensures.value at (c.are_faultless.ensures c.if-are_faultless.true) in
    c.in_ok-go_on.ensures env left
    ∙ ap (outcome_of (segment_in c.args.leg.now.last) env)
    (c.in_ok-pass_over.ensures.walk env left
    ∙ ap (walk_through s env)
    (test_left side.Before w s c.args.copy p q search copied c.in_ok-same.ensures c.in_ok-search.ensures.finds env
    (source_walk ss))
    ∙ calm_window s c.args.copy copied env w ss p
    (calm_ending s c.args.copy search.last.stages p q copied c.in_ok-same.ensures calm c.in_ok-search.ensures.walk env))
