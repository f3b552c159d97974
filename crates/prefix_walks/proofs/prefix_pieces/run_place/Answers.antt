use Rattle.std.proofs.Common.{◌≡◌, ◌+◌, arith, rules}
use Rattle.prefix_walks.proofs.PlacingLemmas.{places_next}
use Rattle.prefix_walks.proofs.prefix_pieces.run_place.Goals as goal

pub loop-position-preserved : goal.loop-position-preserved
loop-position-preserved g c =
    let xs = g.I.SourceItems.items c.args.source.now in
    let same : c.item_at.result.origin ≡ c.item_at-place.result.origin + c.loop-position.position = search rules in
    places_next c.item_at-place.result.origin c.loop-position.position xs c.item_at.result
    (omega (arith, c.requires.count, c.loop-position-test.true)) c.item_at.ensures same c.loop-position.invariant
