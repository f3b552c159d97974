use Rattle.std.proofs.Common.{take, sym, ◌∙◌}
use Rattle.prefix_walks.proofs.PlacingLemmas.{front_paired, laid_at}
use Rattle.prefix_walks.proofs.piece_buffer.PieceBuffer.lanes.Goals as goal

pub returns : goal.returns
returns c =
    let b = c.self.inside in
    sym (laid_at b.start (take b.count b.places) (take b.count b.values)
    (front_paired b.start b.places b.values b.count c.self.invariant)) ∙ c.self.view_is
