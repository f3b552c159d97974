use Rattle.std.proofs.Common.{Vec, Global}
use Rattle.lambda_values.specs.declared.item.Item.{Item}
use Rattle.trace.proofs.CutLemmas.{Passed}
use Rattle.trace.proofs.chunk.shortening.cut_at.Given as goal

abbrev pub invariant-loop-whole : goal.invariant-loop-whole
invariant-loop-whole l = Passed (λ (piece : Vec Item Global). piece.items) l.pieces l.n l.whole l.left
