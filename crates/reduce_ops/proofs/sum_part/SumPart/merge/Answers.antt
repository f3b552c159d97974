use Rattle.reduce_ops.proofs.sum_part.SumPart.merge.Goals as goal

pub returns-in-Running-Piece-clause-stands : goal.returns-in-Running-Piece-clause-stands
returns-in-Running-Piece-clause-stands c =
    λ stage a b p q. c.joined.ensures.stands stage a b (rw c.in-Running-Piece.is-0 at p)
    (rw c.in-Running-Piece.is-1 at q)
