use Rattle.std.proofs.Common.{◌≡◌, suc, ◌-◌, ◌<◌, Some, set, length, refl, arith}
use Rattle.sort_ops.specs.Parts.{done_after}
use Rattle.job_meaning.specs.Walks.{source_walk}
use Rattle.job_routes.specs.Legs.{linked, links_in, walk_through, windowed}
use Rattle.job_routes.proofs.AskLemmas.{last_does, route_asked}
use Rattle.job_routes.proofs.building.Begun.ask.Goals as goal

pub returns-in-Some-last_mut-clause-asked : goal.returns-in-Some-last_mut-clause-asked
returns-in-Some-last_mut-clause-asked c = λ asked.
    let b = c.args.self.now in
    let i = b.scans.len - 1 in
    let some_leg : 0 < b.scans.len = c.in-Some-last_mut.ensures.variant.0 refl in
    let last : suc i ≡ length b.scans.items = omega (arith, b.scans.ok.0, some_leg) in
    route_asked b (set b.scans.items i c.ask.new.self) c.args.count c.in-Some.enough c.in-Some.ensures.plain
    c.in-Some.ensures.maps c.in-Some.ensures.sum
    (last_does (done_after (Some c.in-Some.enough)) b.scans.items i c.in-Some-last_mut.leg.now c.ask.new.self last
    c.in-Some-last_mut.ensures.value (c.ask.ensures.asked asked))

pub returns-in-Some-last_mut-clause-same : goal.returns-in-Some-last_mut-clause-same
returns-in-Some-last_mut-clause-same c = λ not_asked env ss.
    let b = c.args.self.now in
    let i = b.scans.len - 1 in
    let some_leg : 0 < b.scans.len = c.in-Some-last_mut.ensures.variant.0 refl in
    let last : suc i ≡ length b.scans.items = omega (arith, b.scans.ok.0, some_leg) in
    let same = last_does (λ t. t) b.scans.items i c.in-Some-last_mut.leg.now c.ask.new.self last
    c.in-Some-last_mut.ensures.value (c.ask.ensures.same not_asked) env (source_walk ss) in
    (λ j. walk_through b.stages env (linked (links_in b.links.items) env (windowed b.window.from b.window.to (same j))))
