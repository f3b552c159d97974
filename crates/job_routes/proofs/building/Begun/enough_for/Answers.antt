use Rattle.std.proofs.Common.{refl}
use Rattle.trace.specs.Stages.{stages_of}
use Rattle.batch_eval.specs.Faultless.{AreMaps}
use Rattle.job_routes.proofs.AskLemmas.{of_some}
use Rattle.job_routes.proofs.building.Begun.enough_for.Goals as goal

pub returns-then-are_maps-clause-maps : goal.returns-then-are_maps-clause-maps
returns-then-are_maps-clause-maps c =
    let maps : AreMaps (stages_of c.args.self.now.stages.list.items) =
    rw c.deref.ensures.value at (c.if-are_maps.ensures refl) in
    of_some c.checked_add.result maps
