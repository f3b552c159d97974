use Rattle.slice_ops.specs.Slices.{slice_of}
use Rattle.job_routes.proofs.BuiltLemmas.{ok_of_four, window_next}
use Rattle.job_routes.proofs.building.Begun.cut.Goals as goal

pub returns-in-Some : goal.returns-in-Some
returns-in-Some c =
    let e = c.select.ensures in
    ok_of_four c.select.result
    (λ kept window walk number. window_next c.args.self.now c.select.new.self c.in-Some.window (slice_of c.args.slice)
    c.in-Some.ensures.unlinked kept window walk number c.in-Some.ensures.window)
    e.kept e.window e.walk e.number
