use Rattle.std.proofs.Common.{◌≡◌, ◌++◌, map, take}
use Rattle.prefix_walks.proofs.stored.list_places.Given as goal

abbrev pub invariant-loop-position : goal.invariant-loop-position
invariant-loop-position g l = l.places.items
    ≡ l.initial.places.items ++ map (λ x. x.origin) (take l.position (g.I.SourceItems.items l.source))
