use Rattle.reduce_ops.proofs.ExactLemmas.{piece_known}
use Rattle.reduce_ops.proofs.sum_part.SumPart.finish.Goals as goal

pub returns-in-Piece-clause-some : goal.returns-in-Piece-clause-some
returns-in-Piece-clause-some c = piece_known c.args.self c.in-Piece.part c.in-Piece.is c.finish.result
    c.finish-in-Piece.result c.finish.ensures c.finish-in-Piece.ensures.some
