use Rattle.std.proofs.Common.{◌≡◌, ℕ, List, [], ◌∷◌, ◌++◌, length, sym, ap, subst, ◌∙◌, rules}
use Rattle.std.proofs.lemmas.List.{append-nil}
use Rattle.std.specs.Vec.Iter.{into_iter_items, into_iter_len}
use Rattle.job_language.specs.declared.job.Job.{Job}
use Rattle.job_language.specs.Jobs.{AbstractJob, job_of, jobs_of}
use Rattle.job_plan.specs.declared.plan.JobPlan.{JobPlan}
use Rattle.job_plan.specs.Plans.{AreRoutes, IsRoute, plan_in, plan_names, plans_in, AbstractPlan}
use Rattle.job_plan.proofs.MeaningLemmas.{planned, route_names, routes_on}
use Rattle.job_plan.proofs.NameLemmas.{plan_names_more}
use Rattle.job_plan.proofs.PartLemmas.{plans_more}
use Rattle.job_routes.proofs.RouteLemmas.{no_items}
use Rattle.job_plan.proofs.plan.Plan.of.Goals.{After-lent_arrays}
use Rattle.job_plan.proofs.plan.Plan.of.Goals as goal

pub loop-job-init : goal.loop-job-init
loop-job-init c =
    let all : into_iter_items c.into_iter-job-iterator.result ≡ c.args.jobs.items = search rules in
    let count : into_iter_len c.into_iter-job-iterator.result
    ≡ length (into_iter_items c.into_iter-job-iterator.result) = search rules in
    let none : c.new-plans.result.items ≡ [] = c.new-plans.ensures.items in (
      tt,
      tt,
      λ plans later. subst (λ (js : List JobPlan). AreRoutes (plan_names js) plans
          (jobs_of (into_iter_items c.into_iter-job-iterator.result))
          → AreRoutes [] (plans_in js ++ plans) (jobs_of c.args.jobs.items)) (sym none)
          (λ given. subst (λ (ks : List Job). AreRoutes [] plans (jobs_of ks)) all given) later,
      count,
    )

pub loop-job-preserved : goal.loop-job-preserved
loop-job-preserved c =
    let left = jobs_of (into_iter_items c.next.new.self) in
    let js = c.loop-job.plans.items in
    let made = c.in_ok-plan.plan in
    let new = c.push.new.self.items in
    let pushed = c.in_ok-push.ensures.items in
    let count : into_iter_len c.next.new.self ≡ length (into_iter_items c.next.new.self) = search rules in
    let is = subst (λ (ks : List JobPlan). IsRoute (plan_names ks) (plan_in made) (job_of c.in-Some.job))
    c.deref.ensures.value c.in_ok-plan.ensures.ok in (
      tt,
      tt,
      λ plans later.
          let here = subst (λ (names : List (List ℕ)). AreRoutes names plans left)
          (ap plan_names pushed ∙ plan_names_more js made) later in
          let on = routes_on (plan_names js) (plan_in made) plans (job_of c.in-Some.job) left is here in
          let all = c.loop-job.invariant.2 (plan_in made ∷ plans)
          (subst (λ (ks : List AbstractJob). AreRoutes (plan_names js) (plan_in made ∷ plans) ks)
          (sym (ap jobs_of c.in-Some.ensures.steps.0)) on) in
          subst (λ (ps : List AbstractPlan). AreRoutes [] ps (jobs_of c.args.jobs.items))
          (sym (plans_more new js made plans pushed)) all,
      count,
    )

-- the routes of all jobs
routes : (c : After-lent_arrays) → AreRoutes [] (plans_in c.loop-job.plans.items) (jobs_of c.args.jobs.items)
routes c =
    let js = c.loop-job.plans.items in
    let none : into_iter_items c.loop-job.job-iterator ≡ [] =
    no_items (into_iter_items c.loop-job.job-iterator) (sym c.loop-job.invariant.3 ∙ c.in-None.ensures.steps.0) in
    subst (λ (ps : List AbstractPlan). AreRoutes [] ps (jobs_of c.args.jobs.items)) (append-nil (plans_in js))
    (c.loop-job.invariant.2 [] (subst (λ (ks : List Job). AreRoutes (plan_names js) [] (jobs_of ks)) (sym none) tt))

pub returns-clause-routes : goal.returns-clause-routes
returns-clause-routes c = routes (goal.at.returns-clause-routes c).After-lent_arrays

pub returns-clause-meaning : goal.returns-clause-meaning
returns-clause-meaning c = planned (plans_in c.loop-job.plans.items) (jobs_of c.args.jobs.items)
    (routes (goal.at.returns-clause-meaning c).After-lent_arrays)

pub returns-clause-names : goal.returns-clause-names
returns-clause-names c = route_names [] c.loop-job.plans.items (jobs_of c.args.jobs.items)
    (routes (goal.at.returns-clause-names c).After-lent_arrays)
