use Rattle.std.proofs.Common.{◌≡◌, ◌+◌, ◌<◌, ◌≤◌, Some, length, sym, ap, ◌∙◌, arith, rules, w64, to_z, of_z}
use Rattle.batch_eval.specs.Lanes.{at}
use Rattle.batch_eval.specs.Batches.{item_at}
use Rattle.batch_eval.proofs.Items.{lane_at}
use Rattle.batch_eval.proofs.LaneLemmas.{counts_from, length_laid}
use Rattle.batch_eval.proofs.lane_items.LaneItemsSourceItems.item_at.Goals as goal

pub origin_of-requires-clause-counts : goal.origin_of-requires-clause-counts
origin_of-requires-clause-counts c =
    let l = c.args.self.now in
    let less : c.args.position + 1 ≤ length l.values.now =
    omega (arith, c.requires, length_laid l.start l.places.now l.values.now) in
    counts_from l.start (length l.values.now) (c.args.position + 1) less l.counts

pub origin_of-requires-clause-listed : goal.origin_of-requires-clause-listed
origin_of-requires-clause-listed c = λ none_there.
    let l = c.args.self.now in
    let same = l.listed none_there in
    omega (arith, c.requires, length_laid l.start l.places.now l.values.now, same)

pub offset_bounds-self-lane : goal.offset_bounds-self-lane
offset_bounds-self-lane c =
    let l = c.args.self.now in
    let inside : c.args.position < length l.values.now =
    omega (arith, c.requires, length_laid l.start l.places.now l.values.now) in
    search (rules, inside)

pub bounds-self-lane : goal.bounds-self-lane
bounds-self-lane c = let l = c.args.self.now in omega (arith, c.requires, length_laid l.start l.places.now l.values.now)

pub returns : goal.returns
returns c =
    let l = c.args.self.now in
    let k = c.args.position in
    let g = item_at l.start l.places.now l.values.now in
    let inside : k < length l.values.now = omega (arith, c.requires, length_laid l.start l.places.now l.values.now) in
    let fits : to_z w64 (of_z w64 (at l.values.now k)) ≡ at l.values.now k = search rules in
    let same : g k ≡ record { origin = c.origin_of.result; value = to_z w64 (of_z w64 (at l.values.now k)) } =
    λ i. record { origin = sym c.origin_of.ensures i; value = sym fits i } in
    lane_at (length l.values.now) k g inside ∙ ap Some same
