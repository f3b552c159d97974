use Rattle.std.proofs.Common.{◌≡◌, false, take}
use Rattle.columns.specs.Pieces.{with_pieces}
use Rattle.tables.specs.TableOfColumns.{named}
use Rattle.columns.proofs.put_pieces.put_column.Given as goal

-- the cells of the pieces so far are put
abbrev pub invariant-loop-piece : goal.invariant-loop-piece
invariant-loop-piece l =
    (l.column.is_whole ≡ false) × (named l.column
    ≡ with_pieces (named l.initial.column) (take l.piece-index l.pieces) l.place)
