use Rattle.std.proofs.Common.{◌<◌, List, length, refl, subst}
use Rattle.lambda_values.specs.declared.item.Item.{Item}
use Rattle.sort_ops.proofs.NewLemmas.{some_firsts}
use Rattle.sort_ops.proofs.new_values.NewValues.into_items.Goals as goal

pub returns-then-not-take_out_new-clause-refused : goal.returns-then-not-take_out_new-clause-refused
returns-then-not-take_out_new-clause-refused c = subst (λ (xs : List Item). 0 < length xs) c.self.view_is
    (some_firsts c.self.inside.items.items (c.take_out_new.ensures.some c.if-not-take_out_new.true refl))
