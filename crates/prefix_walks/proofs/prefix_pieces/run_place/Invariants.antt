use Rattle.std.proofs.Common.{◌≡◌, take, map}
use Rattle.trace.specs.Cover.{placed}
use Rattle.prefix_walks.proofs.prefix_pieces.run_place.Given as goal

abbrev pub invariant-loop-position : goal.invariant-loop-position
invariant-loop-position g l = take l.position (g.I.SourceItems.items l.source)
    ≡ placed l.place (map (λ x. x.value) (take l.position (g.I.SourceItems.items l.source)))
