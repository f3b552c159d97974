use Rattle.std.proofs.Common.{Vec, Global}
use Rattle.lambda_values.specs.declared.item.Item.{Item}
use Rattle.trace.proofs.StopLemmas.{StopsLater}
use Rattle.trace.proofs.chunk.searching.first_stop.Given as goal

abbrev pub invariant-loop-whole : goal.invariant-loop-whole
invariant-loop-whole g l = StopsLater (g.S.EndTest.stops l.stop) (λ (piece : Vec Item Global). piece.items) l.pieces
    l.whole
