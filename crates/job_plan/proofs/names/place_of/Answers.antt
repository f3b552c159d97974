use Rattle.std.proofs.Common.{◌≡◌, ◌∙◌, rules, tests}
use Rattle.std.specs.Prelude.{nat_eq, position}
use Rattle.std.specs.Cmp.Lexicographic.{pointwise}
use Rattle.std.proofs.lemmas.Iterator.{YieldsList-from_slice}
use Rattle.std.proofs.lemmas.Iterator.Search.{position_from_yields_List}
use Rattle.job_plan.specs.declared.plan.JobPlan.{JobPlan}
use Rattle.job_plan.proofs.NameLemmas.{placed_at}
use Rattle.job_plan.proofs.names.place_of.Goals as goal

pub returns-clause-value : goal.returns-clause-value
returns-clause-value c =
    let name = c.args.name.now in
    let found : c.position.result ≡ position (λ (j : JobPlan). pointwise nat_eq j.name name) c.args.jobs.now =
    position_from_yields_List (λ (j : JobPlan). pointwise nat_eq j.name name) _ _ c.position.result
    c.position.ensures.ran (YieldsList-from_slice _ c.iter.ensures.rest) (λ x b q k. search (rules, tests)) in
    found ∙ placed_at c.args.jobs.now name
