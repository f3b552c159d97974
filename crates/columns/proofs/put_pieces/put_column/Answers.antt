use Rattle.std.proofs.Common.{◌≡◌, ◌∙◌, ◌++◌, map, rules, sym, ap}
use Rattle.columns.specs.Pieces.{cells_at}
use Rattle.tables.specs.TableOfColumns.{named}
use Rattle.columns.proofs.PieceLemmas.{cells_there, put_more}
use Rattle.columns.proofs.put_pieces.put_column.Goals as goal

pub loop-piece-preserved : goal.loop-piece-preserved
loop-piece-preserved c =
    let (short, so_far) = c.loop-piece.invariant in
    let piece = c.piece-item.result in
    let part = c.in-Some.part.now in
    let lookup = c.in-Some.ensures.lookup in
    let there : cells_at (map named piece.columns.items) c.args.place ≡ part.cells.items =
    ap (λ k. cells_at (map named k) c.args.place) (sym c.deref.ensures.value)
    ∙ cells_there c.deref.result.now c.args.place part lookup.3.0 lookup.1 in
    let grown : c.extend_from_slice.new.self.items ≡ c.loop-piece.column.cells.items ++ part.cells.items =
    search rules in (
      short,
      put_more _ c.args.pieces.now c.loop-piece.piece-index c.args.place piece (named c.loop-piece.column)
          c.extend_from_slice.new.self.items part.cells.items
          c.loop-piece-test.true c.piece-item.is so_far there grown,
    )
