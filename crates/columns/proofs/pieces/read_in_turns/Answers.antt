use Rattle.std.proofs.Common.{◌≡◌, map, arith, refl, rules, sym, take}
use Rattle.std.proofs.lemmas.List.{drop-drop, length-drop, length-map, take_rest}
use Rattle.columns.specs.Pieces.{append_pieces}
use Rattle.tables.specs.TableOfColumns.{named}
use Rattle.columns.proofs.TextRowLemmas.{AreReadIn-join, AreReadIn-none}
use Rattle.columns.proofs.pieces.read_in_turns.Goals as goal

pub loop-init : goal.loop-init
loop-init g c = (omega arith, refl, AreReadIn-none _ _ _ _ _)

pub loop-preserved : goal.loop-preserved
loop-preserved g c =
    let (low, same, so_far) = c.loop.invariant in
    let text = c.args.text.now in
    let columns = map named c.loop.columns in
    let read = c.pieces_in_line-count.ensures.read c.args.layout.now columns
    (rw (length-map c.loop.columns named) c.read_turn.ensures) in
    let put : map named c.put_pieces.new.columns
    ≡ append_pieces columns (take c.pieces_in_line-count.result.0 c.read_turn.new.pieces) = search rules in (
      search (rules, length-drop),
      search rules,
      AreReadIn-join _ _ _ _ _ _ _ _ _ so_far
          (rw (sym put, take_rest text c.loop.at, drop-drop c.pieces_in_line-count.result.1 c.loop.at text) at read),
    )
