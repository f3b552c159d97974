use Rattle.std.proofs.Common.{◌≡◌, suc, ◌-◌, ◌<◌, false, length, set, refl, arith, rules}
use Rattle.trace.specs.Stages.{stages_of}
use Rattle.trace.specs.Trace.{Trace}
use Rattle.sort_ops.specs.Runs.{with_places}
use Rattle.sort_ops.proofs.Choices.{by_bool}
use Rattle.job_routes.specs.Building.{IgnorePlaces}
use Rattle.job_routes.specs.Legs.{end_in}
use Rattle.job_routes.proofs.AskLemmas.{last_does}
use Rattle.job_routes.proofs.PlaceLemmas.{route_dropped, route_kept}
use Rattle.job_routes.proofs.RouteLemmas.{no_items}
use Rattle.job_routes.proofs.building.Begun.drop_places.Goals as goal

pub returns-in-Some-clause-walk : goal.returns-in-Some-clause-walk
returns-in-Some-clause-walk c =
    let b = c.args.self.now in
    let i = b.scans.len - 1 in
    let e = end_in c.args.end.now in
    let none : length b.links.items ≡ 0 = search rules in
    let some_leg : 0 < b.scans.len = c.in-Some.ensures.variant.0 refl in
    let last : suc i ≡ length b.scans.items = omega (arith, b.scans.ok.0, some_leg) in
    let stages : IgnorePlaces (stages_of b.stages.list.items) =
    rw c.deref.ensures.value at (c.ignore_places.ensures c.if-ignore_places.true) in
    let legs = set b.scans.items i c.drop_places.new.self in
    by_bool c.drop_places.result
    (λ is_sort. route_dropped b legs e (no_items b.links.items none) stages
    (c.ignores_places.ensures c.if-ignores_places.true)
    (last_does (with_places false) b.scans.items i c.in-Some.leg.now c.drop_places.new.self last c.in-Some.ensures.value
    (c.drop_places.ensures.dropped is_sort)))
    (λ no_sort. route_kept b legs e
    (last_does (λ (t : Trace). t) b.scans.items i c.in-Some.leg.now c.drop_places.new.self last c.in-Some.ensures.value
    (c.drop_places.ensures.same no_sort)))
