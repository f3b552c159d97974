use Rattle.std.proofs.Common.{◌≡◌, ◌∷◌, sym, ap, subst, ◌∙◌, rules}
use Rattle.std.proofs.lemmas.List.{nil_from_length}
use Rattle.lambda_values.specs.Term.{long_of}
use Rattle.trace.specs.Stages.{map, stage_of, stages_of}
use Rattle.batch_eval.specs.Faultless.{AreMaps}
use Rattle.batch_eval.proofs.FaultlessLemmas.{more_maps, no_maps}
use Rattle.batch_eval.proofs.faultless.+are_maps.Goals as goal

pub returns-in-None : goal.returns-in-None
returns-in-None t c = λ yes.
    rw (nil_from_length c.args.stages.now c.in-None.ensures.cases) no_maps

pub returns-in-Some-Map-default : goal.returns-in-Some-Map-default
returns-in-Some-Map-default t c = λ yes.
    let s = c.in-Some-Map-default in
    let split : c.args.stages.now ≡ s.field-0-0.now ∷ s.later.now = search rules in
    let is : stages_of c.args.stages.now ≡ map (long_of s.field-0-0-0) ∷ stages_of s.later.now =
    ap stages_of split ∙ ap (λ g. stage_of g ∷ stages_of s.later.now) s.field-0-0-is in
    subst AreMaps (sym is) (more_maps (long_of s.field-0-0-0) (stages_of s.later.now) (c.are_maps.ensures yes))
