use Rattle.std.proofs.Common.{map, take, sym, ap, ◌∙◌}
use Rattle.lambda_values.specs.declared.item.Item.{Item}
use Rattle.prefix_walks.proofs.PlacingLemmas.{front_paired, values_at}
use Rattle.prefix_walks.proofs.piece_buffer.PieceBuffer.values.Goals as goal

pub returns : goal.returns
returns c =
    let b = c.self.inside in
    sym (values_at b.start (take b.count b.places) (take b.count b.values)
    (front_paired b.start b.places b.values b.count c.self.invariant))
    ∙ ap (map (λ (x : Item). x.value)) c.self.view_is
