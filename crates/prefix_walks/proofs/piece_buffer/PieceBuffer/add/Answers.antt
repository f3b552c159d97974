use Rattle.std.proofs.Common.{◌≡◌, ◌++◌, ◌∷◌, [], List, ℤ, length, sym, ap, ◌∙◌, arith, rules, w64, to_z, of_z}
use Rattle.lambda_values.specs.declared.item.Item.{Item}
use Rattle.prefix_walks.proofs.PlacingLemmas.{length_front, one_added}
use Rattle.prefix_walks.proofs.piece_buffer.PieceBuffer.add.Goals as goal

pub returns-then-self-lt-MOST_ITEMS : goal.returns-then-self-lt-MOST_ITEMS
returns-then-self-lt-MOST_ITEMS c = λ few.
    let b = c.self.inside in
    let o = c.args.item.origin in
    let v = to_z w64 (of_z w64 c.args.item.value) in
    let fits : v ≡ c.args.item.value = search rules in
    one_added b.start b.places b.values b.count c.self.invariant c.list_counted.new.places
    (record { origin = o; value = v }) c.list_counted.ensures c.if-self-lt-MOST_ITEMS.true
    ∙ ap (λ (xs : List Item). xs ++ record { origin = o; value = v } ∷ []) c.self.view_is
    ∙ ap (λ (u : ℤ). c.args.self.now ++ record { origin = o; value = u } ∷ []) fits

pub returns-else-self-lt-MOST_ITEMS : goal.returns-else-self-lt-MOST_ITEMS
returns-else-self-lt-MOST_ITEMS c = λ few.
    let b = c.self.inside in
    let size = ap length (sym c.self.view_is) ∙ length_front b.start b.places b.values b.count c.self.invariant in
    absurd (omega (arith, few, size, c.if-self-lt-MOST_ITEMS.false))
