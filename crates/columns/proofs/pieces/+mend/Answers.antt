use Rattle.std.proofs.Common.{rules}
use Rattle.std.proofs.lemmas.List.Elements.{All-rest}
use Rattle.columns.specs.Pieces.{IsPieceThere}
use Rattle.columns.proofs.pieces.+mend.Goals as goal

pub mend-requires : goal.mend-requires
mend-requires t c = (
  search rules,
  (
    c.requires.fits,
    All-rest (IsPieceThere c.args.layout.now c.args.text.now c.args.width) c.in-Some.piece.now _ _ (search rules)
        c.requires.there,
  ),
)
