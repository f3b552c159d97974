use Rattle.std.proofs.Common.{take, get_or, pos, sym, ◌∙◌, ℤ, FitsSigned, w64, to_z, of_z, rules}
use Rattle.std.specs.List.{flat_map}
use Rattle.std.proofs.lemmas.Int.{to_z-of_z}
use Rattle.lambda_values.specs.declared.item.Item.{Item}
use Rattle.trace.proofs.PieceLemmas.{map_more, pushed_is}
use Rattle.trace.proofs.chunk.values_in.Goals as goal

no_item : Item
no_item = record { origin = 0; value = pos 0 }

pub loop-item-preserved : goal.loop-item-preserved
unfolding no_item
loop-item-preserved c =
    let items = c.deref-item-items.result.now in
    let v : ℤ = (get_or items c.loop-item.item-index no_item).value in
    let fits : FitsSigned w64 v = search rules in
    let more = map_more (λ (x : Item). x.value)
    (flat_map (λ piece. piece.items) (take c.loop-piece.piece-index c.args.pieces.now)) items c.loop-item.item-index
    no_item c.loop-item-test.true in
    pushed_is c.push.new.self.items c.loop-item.values.items _ (to_z w64 (of_z w64 v)) v c.in_ok-push.ensures.items
    c.loop-item.invariant (to_z-of_z w64 v fits) ∙ sym more
