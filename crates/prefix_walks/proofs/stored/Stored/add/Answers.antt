use Rattle.std.proofs.Common.{◌≡◌, ◌+◌, ◌++◌, List, Some, length, true, ap, ◌∙◌, rules}
use Rattle.lambda_values.specs.declared.item.Item.{Item}
use Rattle.prefix_walks.specs.Placing.{items_at}
use Rattle.prefix_walks.proofs.PlacingLemmas.{both_own}
use Rattle.prefix_walks.proofs.stored.Stored.add.Goals as goal

pub returns-clause-added : goal.returns-clause-added
returns-clause-added g c = λ added.
    let b = c.self.inside in
    let xs = g.I.SourceItems.items c.args.source.now in
    let count : c.len-count.result ≡ length b.values.items = search rules in
    let went : c.goes_on.result ≡ true = search rules in
    (λ j. items_at b.start (c.in_ok-extend.ensures.places j) (c.in_ok-extend.ensures.values j))
    ∙ both_own b.start c.args.start b.places.items b.values.items xs c.args.values.now c.self.invariant.0 c.requires.at
    (λ p e. c.goes_on.ensures.counted p went e ∙ ap (λ n. Some (p + n)) count) (c.goes_on.ensures.listed went)
    ∙ ap (λ (ys : List Item). ys ++ xs) c.self.view_is
