use Rattle.std.proofs.lemmas.List.Sorted.{All-permutation}
use Rattle.columns.specs.Pieces.{IsPieceThere}
use Rattle.columns.proofs.pieces.read_turn.Goals as goal

pub mend-requires-clause-there : goal.mend-requires-clause-there
mend-requires-clause-there g c =
    All-permutation (IsPieceThere c.args.layout.now c.args.text.now c.args.width) _ _
    c.sort_unstable_by_key.ensures.permutation c.read_pieces.ensures
