use Rattle.std.proofs.Common.{◌∙◌}
use Rattle.prefix_walks.specs.Scans.{items_of}
use Rattle.prefix_walks.proofs.ScanLemmas.{folded_all, folded_cut, folded_none}
use Rattle.prefix_walks.proofs.folded_piece.FoldedPiece.fold_from.Goals as goal

pub returns-then-holds_all : goal.returns-then-holds_all
returns-then-holds_all c =
    c.fold_after.ensures ∙ folded_all c.args.op c.args.range c.cut_to-at.result c.args.first c.count-count.result
    c.args.start (items_of c.args.self.now) c.cut_to-at.ensures c.count-count.ensures
    (c.holds_all.ensures c.if-holds_all.true)

pub returns-then-holds_none : goal.returns-then-holds_none
returns-then-holds_none c =
    folded_none c.args.op c.args.range c.cut_to-at.result c.args.first c.count-count.result c.args.start
    (items_of c.args.self.now) c.cut_to-at.ensures c.count-count.ensures (c.holds_none.ensures c.if-holds_none.true)

pub returns : goal.returns
returns c =
    c.fold_some.ensures ∙ folded_cut c.args.op c.args.range c.cut_to-at.result c.args.first c.count-count.result
    c.args.start (items_of c.args.self.now) c.cut_to-at.ensures c.count-count.ensures
