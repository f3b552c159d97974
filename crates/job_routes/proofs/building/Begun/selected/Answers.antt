use Rattle.std.proofs.Common.{◌<◌, true, refl, sym, ap, ◌∙◌, rules}
use Rattle.trace.specs.Stages.{pipe, stages_of}
use Rattle.trace.specs.Trace.{Trace}
use Rattle.slice_ops.specs.Slices.{slice_of, sliced}
use Rattle.batch_eval.specs.Faultless.{AreFaultless, AreMaps}
use Rattle.job_routes.specs.Building.{IsClean}
use Rattle.job_meaning.specs.Walks.{source_walk}
use Rattle.job_routes.specs.Legs.{legs_in, scanned, windowed}
use Rattle.job_routes.proofs.BuiltLemmas.{limit_selects, skip_selects, some_map}
use Rattle.job_routes.proofs.WindowLemmas.{limits, skips}
use Rattle.job_routes.proofs.building.Begun.selected.Goals as goal

pub returns-in-Limit-clause-window : goal.returns-in-Limit-clause-window
returns-in-Limit-clause-window c =
    let b = c.args.self.now in
    let gs = stages_of b.stages.list.items in
    let maps : AreMaps gs = rw c.deref-stages.ensures.value at (c.if-are_maps.ensures refl) in
    let some : 0 < c.in-Limit.count = search rules in
    some_map c.limited.result
    (λ w h m env ss.
    let t : Trace = scanned (legs_in b.scans.items) env (source_walk ss) in
    let clean : IsClean t = c.is_clean.ensures c.if-is_clean.true env ss in
    limit_selects b.stages.first gs c.in-Limit.count maps (windowed b.window.from b.window.to t)
    (windowed w.from w.to t) (limits b.window.from b.window.to c.in-Limit.count w.from w.to t some clean h) m env
    ∙ sym (ap (λ d. sliced (slice_of d) m env (pipe b.stages.first gs env (windowed b.window.from b.window.to t)))
    c.in-Limit.is)) c.limited.ensures.some

pub returns-in-Skip-clause-window : goal.returns-in-Skip-clause-window
returns-in-Skip-clause-window c =
    let b = c.args.self.now in
    let gs = stages_of b.stages.list.items in
    let maps : AreMaps gs = rw c.deref-stages.ensures.value at (c.if-are_maps-2.ensures refl) in
    let calm : AreFaultless true gs = rw c.deref-stages.ensures.value at (c.if-are_faultless.ensures refl) in
    some_map c.skipped.result
    (λ w h m env ss.
    let t : Trace = scanned (legs_in b.scans.items) env (source_walk ss) in
    skip_selects b.stages.first gs c.in-Skip.count maps calm (windowed b.window.from b.window.to t)
    (windowed w.from w.to t) (skips b.window.from b.window.to c.in-Skip.count w.from w.to t h) m env
    ∙ sym (ap (λ d. sliced (slice_of d) m env (pipe b.stages.first gs env (windowed b.window.from b.window.to t)))
    c.in-Skip.is)) c.skipped.ensures.some
