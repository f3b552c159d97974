use Rattle.std.proofs.Common.{◌++◌, [], List, sym, ap, subst, ◌∙◌}
use Rattle.lambda_values.specs.declared.item.Item.{Item}
use Rattle.sort_ops.specs.Firsts.{firsts}
use Rattle.sort_ops.specs.NewValues.{AreKnown}
use Rattle.sort_ops.proofs.FirstLemmas.{firsts_first}
use Rattle.sort_ops.proofs.new_values.NewValues.add.Goals as goal

pub invariant_of-self-2 : goal.invariant_of-self-2
invariant_of-self-2 g c = (
  c.add_unnoted.ensures.known c.self.inside.known c.self.inside.lookup
      (subst (λ (xs : List Item). AreKnown xs c.self.inside.known c.self.inside.lookup)
      (sym c.in_ok-reserve.ensures.items) c.self.invariant.0),
  c.add_unnoted.ensures.noted,
)

pub returns-clause-ok : goal.returns-clause-ok
returns-clause-ok g c =
    let xs = g.I.SourceItems.items c.args.source.now in
    c.add_unnoted.ensures.same ∙ ap (λ (l : List Item). firsts [] (l ++ xs)) c.in_ok-reserve.ensures.items
    ∙ sym (firsts_first c.self.inside.items.items xs) ∙ ap (λ (l : List Item). firsts [] (l ++ xs)) c.self.view_is
