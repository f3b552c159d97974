use Rattle.std.proofs.Common.{◌≡◌, ◌+◌, ◌<◌, ℕ, ℤ, List, length, Some, ap, subst, sym, ◌∙◌, arith, rules, w64, to_z}
use Rattle.std.proofs.Common.{of_z}
use Rattle.std.specs.List.{slice_get}
use Rattle.trace.specs.Trace.{Trace}
use Rattle.batch_eval.specs.Lanes.{at}
use Rattle.batch_eval.specs.Batches.{item_at, origin_at}
use Rattle.batch_eval.proofs.Items.{lane_at, lane_inside, counts_less}
use Rattle.batch_eval.proofs.batch.BatchSourceItems.item_at.Goals as goal

pub origin_of-requires-clause-counts : goal.origin_of-requires-clause-counts
origin_of-requires-clause-counts c =
    let b = c.self.inside in
    let sized = c.self.invariant in
    let inside = lane_inside b.live c.args.position (item_at b.start b.origins.items b.values.items) b.end
    c.args.self.now c.self.view_is c.requires in
    counts_less b.start (c.args.position + 1) b.live (omega (arith, inside)) sized.counts

pub origin_of-requires-clause-listed : goal.origin_of-requires-clause-listed
origin_of-requires-clause-listed c =
    let b = c.self.inside in
    let sized = c.self.invariant in
    let inside = lane_inside b.live c.args.position (item_at b.start b.origins.items b.values.items) b.end
    c.args.self.now c.self.view_is c.requires in
    let within : c.args.position < length b.origins.items =
    omega (arith, inside, sized.live_lanes, sized.origins_length) in
    λ _. subst (λ (xs : List ℕ). c.args.position < length xs) (sym c.deref.ensures.value) within

pub value_of-requires : goal.value_of-requires
value_of-requires c =
    let b = c.self.inside in
    let sized = c.self.invariant in
    let inside = lane_inside b.live c.args.position (item_at b.start b.origins.items b.values.items) b.end
    c.args.self.now c.self.view_is c.requires in
    let within : c.args.position < length b.values.items =
    omega (arith, inside, sized.live_lanes, sized.values_length) in
    subst (λ (xs : List ℤ). c.args.position < length xs) (sym c.deref-2.ensures.value) within

pub returns : goal.returns
returns c =
    let b = c.self.inside in
    let g = item_at b.start b.origins.items b.values.items in
    let k = c.args.position in
    let inside = lane_inside b.live k g b.end c.args.self.now c.self.view_is c.requires in
    let origin = c.origin_of.ensures ∙ ap (λ (xs : List ℕ). origin_at b.start xs k) c.deref.ensures.value in
    let value = c.value_of.ensures ∙ ap (λ (xs : List ℤ). at xs k) c.deref-2.ensures.value in
    let same : g k ≡ record { origin = c.origin_of.result; value = c.value_of.result } = cc in
    let fits : to_z w64 (of_z w64 c.value_of.result) ≡ c.value_of.result = search rules in
    let here = subst (λ (t : Trace). slice_get t.items k
    ≡ Some (record { origin = c.origin_of.result; value = c.value_of.result })) c.self.view_is
    (lane_at b.live k g inside ∙ ap Some same) in
    subst (λ (v : ℤ). slice_get c.args.self.now.items k ≡ Some (record { origin = c.origin_of.result; value = v }))
    (sym fits) here
