use Rattle.std.proofs.Common.{◌≡◌, ◌∙◌, rules}
use Rattle.prefix_walks.specs.Placing.{items_at, places_for}
use Rattle.prefix_walks.proofs.PlacingLemmas.{items_own}
use Rattle.prefix_walks.proofs.stored.Stored.of.Goals as goal

pub returns : goal.returns
returns g c =
    let xs = g.I.SourceItems.items c.args.source.now in
    let vs = c.args.values.now in
    let places : c.extend.new.places.items ≡ places_for c.args.start xs = search rules in
    let values : c.extend.new.stored.items ≡ vs = search rules in
    (λ j. items_at c.args.start (places j) (values j)) ∙ items_own c.args.start xs vs c.requires.at
