use Rattle.std.proofs.Common.{◌-◌, List, length, slice_get, ap, ◌∙◌}
use Rattle.job_meaning.specs.Walks.{source_walk}
use Rattle.job_routes.specs.declared.leg.Leg.{Leg}
use Rattle.job_routes.proofs.WindowLemmas.{clean_last}
use Rattle.job_routes.proofs.building.Begun.is_clean.Goals as goal

pub returns-in-Some : goal.returns-in-Some
returns-in-Some c = λ h env ss. clean_last c.args.self.now.scans.items c.in-Some.leg.now env (source_walk ss)
    (c.in-Some.ensures.value ∙ ap (λ (ls : List Leg). slice_get ls (length ls - 1)) c.deref.ensures.value)
    (c.gives_clean.ensures h)
