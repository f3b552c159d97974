use Rattle.std.proofs.Common.{◌≡◌, ◌-◌, ◌<◌, suc, length, refl, arith}
use Rattle.std.proofs.lemmas.List.Elements.{All-set}
use Rattle.trace.proofs.PieceLemmas.{read_grows, read_stays}
use Rattle.prefix_walks.specs.Scans.{IsFolded, items_of}
use Rattle.prefix_walks.proofs.prefix_pieces.add_to_last.Goals as goal

pub returns-in-Some-clause-added : goal.returns-in-Some-clause-added
returns-in-Some-clause-added g c = λ h.
    let pieces = c.args.pieces.now in
    let some_piece : 0 < pieces.len = c.in-Some.ensures.variant.0 refl in
    let last : suc (pieces.len - 1) ≡ length pieces.items = omega (arith, pieces.ok.0, some_piece) in
    read_grows items_of pieces.items (pieces.len - 1) c.in-Some.piece.now c.add.new.self
    (g.I.SourceItems.items c.args.source.now) last c.in-Some.ensures.value (c.add.ensures.added h)

pub returns-in-Some-clause-other : goal.returns-in-Some-clause-other
returns-in-Some-clause-other g c = λ h.
    let pieces = c.args.pieces.now in
    let some_piece : 0 < pieces.len = c.in-Some.ensures.variant.0 refl in
    let last : suc (pieces.len - 1) ≡ length pieces.items = omega (arith, pieces.ok.0, some_piece) in
    read_stays items_of pieces.items (pieces.len - 1) c.in-Some.piece.now c.add.new.self last c.in-Some.ensures.value
    (c.add.ensures.other h)

pub returns-in-Some-clause-folds : goal.returns-in-Some-clause-folds
returns-in-Some-clause-folds g c =
    let pieces = c.args.pieces.now in
    All-set (IsFolded c.args.op) pieces.items (pieces.len - 1) c.add.new.self c.add.ensures.folded c.requires.folds
