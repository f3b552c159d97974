use Rattle.std.proofs.Common.{◌≡◌, ◌∷◌, List, take, true, sym, subst, rules}
use Rattle.trace.specs.declared.stage.Stage.{Stage}
use Rattle.trace.specs.Stages.{stage_of, stages_of}
use Rattle.batch_eval.specs.Faultless.{AreFaultless}
use Rattle.job_language.specs.Jobs.{item}
use Rattle.job_language.specs.Places.{stage_is_placeless}
use Rattle.job_routes.specs.Building.{IgnorePlaces}
use Rattle.job_routes.proofs.PlaceLemmas.{more_ignore}
use Rattle.job_routes.proofs.placeless.+ignore_places.Goals as goal

pub returns-then-are_faultless : goal.returns-then-are_faultless
returns-then-are_faultless t c = λ yes.
    let g = stage_of c.in-Some.stage.now in
    let split : c.args.stages.now ≡ c.in-Some.stage.now ∷ c.in-Some.later.now = search rules in
    let plain : stage_is_placeless (item g) ≡ true = search rules in
    let calm = subst (λ (ss : List Stage). AreFaultless true (stages_of (take 1 ss))) split
    (c.are_faultless.ensures c.if-are_faultless.true) in
    subst (λ (ss : List Stage). IgnorePlaces (stages_of ss)) (sym split)
    (more_ignore g (stages_of c.in-Some.later.now) plain calm (c.ignore_places.ensures yes))
