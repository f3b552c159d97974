use Rattle.std.proofs.Common.{false, sym, ap, ◌∙◌}
use Rattle.sort_ops.specs.Runs.{with_places}
use Rattle.job_routes.specs.declared.ends.SegmentEnd.{SegmentEnd}
use Rattle.job_routes.specs.Legs.{end_in, ended, given_walk}
use Rattle.job_routes.proofs.PlaceLemmas.{places_dropped}
use Rattle.job_routes.proofs.ends.SegmentEnd.drop_places.Goals as goal

pub returns-in-Sorted-clause-dropped : goal.returns-in-Sorted-clause-dropped
returns-in-Sorted-clause-dropped c = λ is_sort n env t.
    places_dropped c.in-Sorted.most c.in-Sorted.places t
    ∙ sym (ap (λ (s : SegmentEnd). with_places false (given_walk (ended (end_in s) n env t))) c.in-Sorted.is)
